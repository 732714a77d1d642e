-- What the loop keeps: the nodes passed have their entries.
use Rattle.std.proofs.Common.{◌≡◌, ℕ, ◌<◌, length}
use Rattle.graphs.specs.Certificate.{told}
use Rattle.grounds.specs.Level.{first_entry}
use Rattle.grounds.proofs.levels.Levels.mark_goals.Given as goal

abbrev pub invariant-loop-node : goal.invariant-loop-node
invariant-loop-node g l = record {
  at : l.self.ground ≡ l.initial.self.ground;
  by : l.self.permitted ≡ l.initial.self.permitted;
  long : length l.self.table ≡ 4096;
  begun : (v : ℕ) → v < l.node → told l.self.table v ≡ first_entry (g.G.Ground.graph l.self.ground.now) v;
}
