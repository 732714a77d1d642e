-- What a feeder made of random numbers does with a part: the entry of the table for the pose and the action, cut down to a pose.
use Rattle.std.specs.Prelude.{ℕ, ◌+◌, ◌*◌, ◌%◌, ◌≤◌, List, slice_index}
use Rattle.std.proofs.Common.{arith}
use Rattle.std.proofs.lemmas.Nat.{mod_below}
use Rattle.feeders.specs.Motion.{Motion, Valid}

abbrev pub dice_motion : ℕ → ℕ → List ℕ → Motion
dice_motion n k t = record { poses = n; actions = k; next = λ p a. slice_index t (p * 4 + a) % n }

-- every table keeps the rule of feeders, for 1 to 6 poses and 1 to 4 actions
pub dice_valid : (n k : ℕ) (t : List ℕ) → 1 ≤ n → n ≤ 6 → 1 ≤ k → k ≤ 4 → Valid (dice_motion n k t)
dice_valid n k t some few can short = record {
  some_pose = some;
  few_poses = omega arith;
  some_action = can;
  few_actions = omega arith;
  stays = λ p a hp ha. mod_below (slice_index t (p * 4 + a)) n some;
}

-- numbers of poses and actions that no such feeder can have
abbrev pub Beyond : ℕ → ℕ → Type 0
Beyond n k = (1 ≤ n) → (n ≤ 6) → (1 ≤ k) → (k ≤ 4) → ⊥
