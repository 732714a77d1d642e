-- At the end all nodes have their entries.
use Rattle.std.proofs.Common.{◌≡◌, arith}
use Rattle.grounds.proofs.Sweeps.{level_zero}
use Rattle.grounds.proofs.levels.Levels.mark_goals.Goals as goal

pub returns-clause-level : goal.returns-clause-level
returns-clause-level g c =
    let x = c.loop-node.self in
    let t = g.G.Ground.graph x.ground.now in
    let all : c.loop-node.node ≡ t.nodes = rw c.loop-node.invariant.at (omega (arith, c.nodes-node-end.ensures)) in
    level_zero t x.permitted x.table (λ v l. c.loop-node.invariant.begun v (omega (arith, all)))
