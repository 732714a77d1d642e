-- Why a gate row is a feeder: what keeps its rule has a valid motion.
use Rattle.std.specs.Prelude.{◌≡◌, ℕ, ◌+◌, ◌%◌, ◌<◌, length, slice_index_or}
use Rattle.std.proofs.Common.{refl, arith}
use Rattle.std.proofs.lemmas.Nat.{mod_below}
use Rattle.std.proofs.lemmas.Bool.{cond_both}
use Rattle.lists.specs.Held.{list_of}
use Rattle.feeders.specs.Motion.{Valid}
use Rattle.feeders.specs.Sets.{has}
use Rattle.gates.specs.declared.gate.Gate.{Gate}
use Rattle.gates.specs.declared.row.GateRow.{GateRow}
use Rattle.gates.specs.Gates.{Gates, Keeps, idle, turned, gate_motion}
use Rattle.gates.specs.Held.{gates_of}

-- a gate leads from a pose to a pose
pub turned_stays : (n : ℕ) (g : Gate) (p : ℕ) → p < n → turned n g p < n
turned_stays n g p h =
    cond_both (has g.set p) ((p + g.turn) % n) p (λ q. q < n) (λ _. mod_below (p + g.turn) n (omega arith)) (λ _. h)

pub gates_valid : (t : Gates) → Keeps t → Valid (gate_motion t)
gates_valid t k = record {
  some_pose = k.some_pose;
  few_poses = k.few_poses;
  some_action = k.some_gate;
  few_actions = k.few_gates;
  stays = λ p a hp ha. turned_stays t.poses (slice_index_or t.gates a idle) p hp;
}

pub row_valid : (r : GateRow) → Valid (gate_motion (gates_of r))
row_valid r = gates_valid (gates_of r) r.keeps

-- every row keeps the rule
pub held_keeps : (r : GateRow) → Keeps (gates_of r)
held_keeps r = r.keeps

-- a row has as many gates as it has actions
pub held_length : (r : GateRow) → length (list_of r.gates) ≡ (gate_motion (gates_of r)).actions
held_length r = refl
