-- The laws hold over any feeder.
use Rattle.layers.specs.Held.{series_of}
use Rattle.layers.specs.SeriesFacts.{series_laws}
use Rattle.layers.proofs.series.Series.new.Goals as goal

pub returns-clause-laws : goal.returns-clause-laws
returns-clause-laws g c = series_laws (g.F.Feeder.motion c.args.below) (series_of c.args.table)
