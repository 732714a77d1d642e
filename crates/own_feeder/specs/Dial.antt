-- What a dial does with a part: a ring of positions; action 0 turns it by one, action 1 kicks the part off position 0 to position 1.
use Rattle.std.specs.Prelude.{ℕ, ◌+◌, ◌%◌, ◌≤◌, if◌then◌else◌, ◌==◌}
use Rattle.std.proofs.Common.{arith}
use Rattle.std.proofs.lemmas.Nat.{mod_below}
use Rattle.std.proofs.lemmas.Bool.Decides.{nat_tests}
use Rattle.feeders.specs.Motion.{Motion, Valid}

abbrev pub dial_next : ℕ → ℕ → ℕ → ℕ
dial_next n p a = if a == 0 then (p + 1) % n else (if p == 0 then 1 % n else p)

abbrev pub dial_motion : ℕ → Motion
dial_motion n = record { poses = n; actions = 2; next = dial_next n }

-- every dial of 1 to 32 positions keeps the rule of feeders
pub dial_valid : (n : ℕ) → 1 ≤ n → n ≤ 32 → Valid (dial_motion n)
dial_valid n some few = record {
  some_pose = some;
  few_poses = few;
  some_action = omega arith;
  few_actions = omega arith;
  stays = λ p a hp ha. grind (arith, nat_tests, mod_below);
}

-- a number of positions that no feeder can have
abbrev pub Beyond : ℕ → Type 0
Beyond n = (1 ≤ n) → (n ≤ 32) → ⊥
