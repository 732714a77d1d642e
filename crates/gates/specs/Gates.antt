-- A gate row: for each action a gate, which turns the poses of its set and lets the others stay.
use Rattle.std.specs.Prelude.{ℕ, ◌+◌, ◌%◌, ◌^◌, ◌<◌, ◌≤◌, cond, List, length, get_or, slice_index_or}
use Rattle.feeders.specs.Motion.{Motion}
use Rattle.feeders.specs.Sets.{has}
use Rattle.gates.specs.declared.gate.Gate.{Gate}

pub record Gates : Type 0 where
  pub poses : ℕ
  pub gates : List Gate

-- a gate that turns nothing
abbrev pub idle : Gate
idle = record { set = 0; turn = 0 }

-- The rule of a gate row: 1 to 32 poses, 1 to 32 gates, each with a set of poses that exist and a turn below their number.
pub record Keeps (t : Gates) : Type 0 where
  pub some_pose : 1 ≤ t.poses
  pub few_poses : t.poses ≤ 32
  pub some_gate : 1 ≤ length t.gates
  pub few_gates : length t.gates ≤ 32
  pub sets : (a : ℕ) → a < length t.gates → (get_or t.gates a idle).set < 2 ^ t.poses
  pub turns : (a : ℕ) → a < length t.gates → (get_or t.gates a idle).turn < t.poses

-- where a gate brings pose p of n: a pose of the set goes to (p + turn) modulo n, another stays
abbrev pub turned : ℕ → Gate → ℕ → ℕ
turned n g p = cond (has g.set p) ((p + g.turn) % n) p

abbrev pub gate_motion : Gates → Motion
gate_motion t = record { poses = t.poses; actions = length t.gates; next = λ p a. turned t.poses (slice_index_or t.gates a idle) p }
