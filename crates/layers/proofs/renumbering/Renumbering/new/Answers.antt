-- The layer renames the poses of any feeder.
use Rattle.layers.specs.Numbered.{numbering_of}
use Rattle.layers.specs.RenumberingFacts.{renumbered_renames}
use Rattle.layers.proofs.renumbering.Renumbering.new.Goals as goal

pub returns-clause-renames : goal.returns-clause-renames
returns-clause-renames g c =
    renumbered_renames (g.F.Feeder.motion c.args.below) (numbering_of c.args.table) (g.F.Feeder.valid c.args.below) c.args.table.keeps
