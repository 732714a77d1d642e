-- What the loop keeps: the table has the nodes up to this level, of which there are fewer than nodes.
use Rattle.std.proofs.Common.{◌≡◌, ◌-◌}
use Rattle.grounds.specs.Level.{Level}
use Rattle.grounds.proofs.levels.Levels.fill.Given as goal

abbrev pub invariant-loop-level : goal.invariant-loop-level
invariant-loop-level g l = record {
  at : l.self.ground ≡ l.fn.self.ground;
  by : l.self.permitted ≡ l.fn.self.permitted;
  level : Level (g.G.Ground.graph l.self.ground.now) l.self.permitted l.level l.self.table;
}

abbrev pub decreases-loop-level : goal.decreases-loop-level
decreases-loop-level g l = (g.G.Ground.graph l.fn.self.ground.now).nodes - l.level
