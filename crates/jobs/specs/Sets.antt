-- Sets as numbers: what the functions of src/sets.rt answer.
use Rattle.std.specs.Prelude.{◌≡◌, ℕ, ◌^◌, ◌<◌, Some, None, Option, bit_and}
use Rattle.std.specs.Int.{w32, bit_not}
use Rattle.graphs.specs.PairRule.{One}

-- s without p
abbrev pub less : ℕ → ℕ → ℕ
less s p = bit_and s (bit_not w32 (2 ^ p))

-- the pose of a set that has one
abbrev pub OnlyPose : ℕ → Option ℕ → Type 0
OnlyPose s (Some p) = (p < 32) × (s ≡ 2 ^ p)
OnlyPose s None = One s → ⊥
