-- Each entry of the table is computed.
use Rattle.std.proofs.Common.{◌∙◌, arith}
use Rattle.graphs.proofs.Numbering.{start_mono}
use Rattle.grounds.proofs.Triangle.{start_at}
use Rattle.grounds.proofs.starts.start_of.Goals as goal

pub returns : goal.returns
returns c =
    let is = c.from.ensures ∙ start_at c.args.q c.requires in
    record { is = is; few = omega (arith, is, start_mono c.args.q 31 (omega arith)) }
