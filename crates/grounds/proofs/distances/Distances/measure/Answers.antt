-- The table passes.
use Rattle.feeders.proofs.Sets.{true_of_T}
use Rattle.graphs.specs.Certificate.{passes}
use Rattle.graphs.proofs.Certificates.{passes-complete}
use Rattle.grounds.proofs.distances.Distances.measure.Goals as goal

pub invariant_of-result : goal.invariant_of-result
invariant_of-result g c =
    let x = c.fill.new.self in
    let t = g.G.Ground.graph x.ground.now in
    record { passes = true_of_T (passes t x.permitted x.table) (passes-complete t x.permitted x.table c.fill.ensures.passes) }
