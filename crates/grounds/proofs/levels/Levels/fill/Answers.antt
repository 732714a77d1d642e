-- A level that is not empty is below the number of nodes.
use Rattle.std.proofs.Common.{◌<◌, ◌∙◌, add-one, arith}
use Rattle.grounds.proofs.Sweeps.{level_below}
use Rattle.grounds.proofs.levels.Levels.fill.Given as given
use Rattle.grounds.proofs.levels.Levels.fill.Goals as goal
use Rattle.grounds.proofs.levels.Levels.fill.Goals.{In-loop-level}

below : (g : given.Over) (c : In-loop-level g) → c.loop-level.level < (g.G.Ground.graph c.args.self.now.ground.now).nodes
below g c =
    let x = c.loop-level.self in
    let h = g.G.Ground.sound x.ground.now in
    rw c.loop-level.invariant.at at (level_below (g.G.Ground.graph x.ground.now) x.permitted c.loop-level.level x.table h c.loop-level.invariant.level)

pub overflow_add-level : goal.overflow_add-level
overflow_add-level g c = omega (arith, below g c, (g.G.Ground.sound c.args.self.now.ground.now).few_nodes)

pub loop-level-smaller : goal.loop-level-smaller
loop-level-smaller g c = omega (arith, below g c)

pub loop-level-preserved : goal.loop-level-preserved
loop-level-preserved g c =
    let e = c.loop-level-test.ensures in
    record {
      at = e.at ∙ c.loop-level.invariant.at;
      by = e.by ∙ c.loop-level.invariant.by;
      level = rw (add-one c.loop-level.level) e.swept;
    }
