-- The table passes.
use Rattle.std.proofs.Common.{arith}
use Rattle.grounds.proofs.Searches.{passing, entry_away}
use Rattle.grounds.proofs.distances.Distances.distance.Goals as goal

pub returns-clause-away : goal.returns-clause-away
returns-clause-away g c =
    let x = c.args.self.now.levels in
    let t = g.G.Ground.graph x.ground.now in
    entry_away t x.permitted x.table c.args.node (g.G.Ground.sound x.ground.now) (passing t x.permitted x.table c.args.self.now.passes) (omega (arith, c.nodes.ensures)) c.entry.result c.entry.ensures.is
