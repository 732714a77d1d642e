-- How the number reader goes, from group to group. It reads what number_at says (proofs/Reading.antt).
use Rattle.std.specs.Prelude.{ℕ, zero, suc, ◌+◌, ◌*◌, ◌%◌, ◌^◌, cond, List, [], ◌∷◌, Ok, Err, Result, ◌==◌, nat_lt}
use Rattle.refusals.specs.declared.Refusal.{Refusal}
use Rattle.refusals.specs.declared.Refusal.TheVariants.{EndsEarly, BadNumber}
use Rattle.numbers.specs.Number.{Read}

-- A group in front of a higher part that was read after it. A higher part of 0 is not the shortest form,
-- and one of more than 25 bits makes more than 32.
abbrev pub joined : ℕ → Result Read Refusal → Result Read Refusal
joined b (Err e) = Err e
joined b (Ok high) =
    cond (nat_lt b 256)
    (cond (high.value == 0) (Err BadNumber) (cond (nat_lt high.value (2 ^ 25)) (Ok (record { value = b % 128 + 128 * high.value; rest = high.rest })) (Err BadNumber)))
    (Err BadNumber)

-- a number of at most n groups
abbrev pub read_by : ℕ → List ℕ → Result Read Refusal
read_by zero bytes = Err BadNumber
read_by (suc n) [] = Err EndsEarly
read_by (suc n) (b ∷ bytes) = cond (nat_lt b 128) (Ok (record { value = b; rest = bytes })) (joined b (read_by n bytes))
