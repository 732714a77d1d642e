-- One row of a trace, as twelve bytes.
use Rattle.std.specs.Prelude.{ℕ, ◌+◌, ◌/◌, ◌%◌, ◌^◌, cond, List, [], ◌∷◌, ◌++◌, Some, None, Option, nat_lt}

-- a number below 16 as a small hex digit: 48 is 0, and 97 is a
abbrev pub hex_digit : ℕ → ℕ
hex_digit n = cond (nat_lt n 10) (48 + n) (87 + n)

-- the hex digit of s with the weight 16 ^ k
unfoldable pub hex_at : ℕ → ℕ → ℕ
hex_at s k = hex_digit (s / 16 ^ k % 16)

-- a set of poses in eight hex digits
abbrev pub hex8 : ℕ → List ℕ
hex8 s = hex_at s 7 ∷ (hex_at s 6 ∷ (hex_at s 5 ∷ (hex_at s 4 ∷ (hex_at s 3 ∷ (hex_at s 2 ∷ (hex_at s 1 ∷ (hex_at s 0 ∷ [])))))))

-- the action in two decimal digits, or `--` where there is none
abbrev pub mark : Option ℕ → List ℕ
mark None = 45 ∷ (45 ∷ [])
mark (Some a) = (48 + a / 10) ∷ ((48 + a % 10) ∷ [])

-- the mark, a blank, the set, LF
abbrev pub row_of : Option ℕ → ℕ → List ℕ
row_of a s = mark a ++ (32 ∷ (hex8 s ++ (10 ∷ [])))
