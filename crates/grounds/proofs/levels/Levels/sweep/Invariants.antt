-- What the loop keeps: the nodes passed have their entries.
use Rattle.std.proofs.Common.{◌≡◌, length}
use Rattle.grounds.specs.Level.{Sweeping}
use Rattle.grounds.proofs.levels.Levels.sweep.Given as goal

abbrev pub invariant-loop-node : goal.invariant-loop-node
invariant-loop-node g l = record {
  at : l.self.ground ≡ l.initial.self.ground;
  by : l.self.permitted ≡ l.initial.self.permitted;
  long : length l.self.table ≡ 4096;
  swept : Sweeping (g.G.Ground.graph l.self.ground.now) l.self.permitted l.level l.node l.any l.self.table;
}
