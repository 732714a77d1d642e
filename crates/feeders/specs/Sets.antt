-- Sets of poses or of actions as 32-bit numbers: the bit of weight 2 ^ p stands for p.
use Rattle.std.specs.Prelude.{ℕ, ◌/◌, ◌%◌, ◌^◌, Bool, true, false, List, [], ◌∷◌, ◌==◌, bit_or, nat_lt}

-- p belongs to s
abbrev pub has : ℕ → ℕ → Bool
has s p = s / 2 ^ p % 2 == 1

-- s and p
abbrev pub with : ℕ → ℕ → ℕ
with s p = bit_or s (2 ^ p)

-- every entry of the list is below k
abbrev pub all_below : ℕ → List ℕ → Bool
all_below k [] = true
all_below k (a ∷ w) = elim (nat_lt a k) [ true ↦ all_below k w | false ↦ false ]
