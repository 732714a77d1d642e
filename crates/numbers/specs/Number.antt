-- How a number is spelled in bytes: groups of seven bits, lowest first, as few as can be, at most five.
-- Every group but the last has 128 (80 hex) added. 300 is AC 02.
use Rattle.std.specs.Prelude.{ℕ, zero, suc, ◌+◌, ◌*◌, ◌/◌, ◌%◌, ◌^◌, Bool, true, false, cond, List, [], ◌∷◌, length, drop, Ok, Err, Result, ◌==◌, nat_lt}
use Rattle.refusals.specs.declared.Refusal.{Refusal}
use Rattle.refusals.specs.declared.Refusal.TheVariants.{EndsEarly, BadNumber}

-- the shortest spelling of v with at most n groups before the last
abbrev pub spelled_by : ℕ → ℕ → List ℕ
spelled_by zero v = v ∷ []
spelled_by (suc n) v = cond (nat_lt v 128) (v ∷ []) ((v % 128 + 128) ∷ spelled_by n (v / 128))

-- the spelling of a number below 2 ^ 32
abbrev pub spell : ℕ → List ℕ
spell v = spelled_by 4 v

-- the groups at the front of some bytes: up to the first byte below 128, at most n of them
abbrev pub groups : ℕ → List ℕ → List ℕ
groups zero bytes = []
groups (suc n) [] = []
groups (suc n) (b ∷ bytes) = b ∷ cond (nat_lt b 128) [] (groups n bytes)

-- the value of groups: each counts its low seven bits, the first lowest
abbrev pub value : List ℕ → ℕ
value [] = 0
value (b ∷ gs) = b % 128 + 128 * value gs

-- the last group is there: one below 128, which calls for no other
abbrev pub complete : List ℕ → Bool
complete [] = false
complete (b ∷ gs) = cond (nat_lt b 128) true (complete gs)

abbrev pub same_bytes : List ℕ → List ℕ → Bool
same_bytes [] [] = true
same_bytes [] (y ∷ ys) = false
same_bytes (x ∷ xs) [] = false
same_bytes (x ∷ xs) (y ∷ ys) = cond (x == y) (same_bytes xs ys) false

-- groups spell a number: their value has 32 bits, and they are its shortest form
abbrev pub shortest : List ℕ → Bool
shortest gs = cond (nat_lt (value gs) (2 ^ 32)) (same_bytes gs (spell (value gs))) false

-- a number, and the bytes after it
pub record Read : Type 0 where
  pub value : ℕ
  pub rest : List ℕ

-- The number at the front of some bytes. Five groups that call for a sixth are a bad number; fewer that call for another end early.
abbrev pub number_at : List ℕ → Result Read Refusal
number_at bytes =
    cond (complete (groups 5 bytes))
    (cond (shortest (groups 5 bytes)) (Ok (record { value = value (groups 5 bytes); rest = drop (length (groups 5 bytes)) bytes })) (Err BadNumber))
    (cond (length (groups 5 bytes) == 5) (Err BadNumber) (Err EndsEarly))
