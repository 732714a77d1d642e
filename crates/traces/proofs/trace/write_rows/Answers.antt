-- The start is the first row, and each turn performs one action and writes one row.
use Rattle.std.proofs.Common.{◌≡◌, ◌+◌, take, sym, ◌∙◌}
use Rattle.feeders.specs.Image.{image}
use Rattle.feeders.proofs.Images.{image-empty}
use Rattle.feeders.proofs.Sets.{all_below-get_or}
use Rattle.traces.proofs.Steps.{rows_more, row_more, along_below, along_more}
use Rattle.traces.proofs.trace.write_rows.Goals as goal

pub loop-i-init : goal.loop-i-init
loop-i-init g c =
    let start = image-empty (g.F.Feeder.motion c.args.feeder.now) c.args.set c.requires.set_bound in
    record { along = sym start; below = c.requires.set_bound; written = rw (c.write_row.ensures, start) }

pub stepped-here-requires-clause-action_bound : goal.stepped-here-requires-clause-action_bound
stepped-here-requires-clause-action_bound g c =
    (all_below-get_or (g.F.Feeder.motion c.args.feeder.now).actions c.args.list.now).0 c.requires.list_bound c.loop-i.i c.loop-i-test.true

pub loop-i-preserved : goal.loop-i-preserved
loop-i-preserved g c =
    let f = c.args.feeder.now in
    let m = g.F.Feeder.motion f in
    let w = c.args.list.now in
    let i = c.loop-i.i in
    let along : c.stepped-here.result ≡ image m c.args.set (take (i + 1) w) =
    c.stepped-here.ensures ∙ along_more m (g.F.Feeder.valid f) c.args.set w c.requires.list_bound c.loop-i.here i c.loop-i-test.true c.loop-i.invariant.along in
    let row = c.write_row-in-loop-i.ensures ∙ row_more m c.args.set w i c.stepped-here.result along in
    record {
      along = along;
      below = rw along (along_below m (g.F.Feeder.valid f) c.args.set w c.requires.list_bound (i + 1));
      written = rows_more m c.args.set w c.loop-i.buffer _ c.write_row-in-loop-i.new.row (i + 1) c.loop-i.invariant.written row;
    }
