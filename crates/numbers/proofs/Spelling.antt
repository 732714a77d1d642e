-- Each 32-bit number has one spelling that is accepted, in front of any bytes.
use Rattle.std.proofs.Common.{◌≡◌, ℕ, zero, suc, ◌/◌, ◌^◌, ◌<◌, true, cond, eqb, List, [], ◌∷◌, ◌++◌, length, drop, Ok, Err, refl, arith}
use lib.Seq.{drop-append_seam}
use Rattle.std.proofs.lemmas.Bool.Decides.{nat_tests}
use Rattle.refusals.specs.declared.Refusal.TheVariants.{EndsEarly, BadNumber}
use Rattle.numbers.specs.Number.{spelled_by, spell, groups, value, complete, same_bytes, shortest, Read, number_at}
use Rattle.numbers.specs.Spelling.{OneSpelling}

-- same_bytes is equality
pub same_refl : (xs : List ℕ) → same_bytes xs xs ≡ true
same_refl [] = refl
same_refl (x ∷ xs) = grind (arith, nat_tests, same_refl xs)

pub same_eq : (xs ys : List ℕ) → same_bytes xs ys ≡ true → xs ≡ ys
same_eq [] [] h = refl
same_eq [] (y ∷ ys) h = cc
same_eq (x ∷ xs) [] h = cc
same_eq (x ∷ xs) (y ∷ ys) h = grind (arith, nat_tests, same_eq xs ys)

-- the groups at the front of some bytes are their front
pub groups-front : (n : ℕ) (bytes : List ℕ) → bytes ≡ groups n bytes ++ drop (length (groups n bytes)) bytes
groups-front zero bytes = refl
groups-front (suc n) [] = refl
groups-front (suc n) (b ∷ bytes) = grind (arith, nat_tests, groups-front n bytes)

-- v needs at most n groups before the last
abbrev pub Within : ℕ → ℕ → Type 0
Within zero v = v < 128
Within (suc n) v = Within n (v / 128)

pub groups-spelled : (n v : ℕ) (rest : List ℕ) → Within n v → groups (suc n) (spelled_by n v ++ rest) ≡ spelled_by n v
groups-spelled zero v rest h = grind (arith, nat_tests)
groups-spelled (suc n) v rest h = grind (arith, nat_tests, groups-spelled n (v / 128) rest h)

pub complete-spelled : (n v : ℕ) → Within n v → complete (spelled_by n v) ≡ true
complete-spelled zero v h = grind (arith, nat_tests)
complete-spelled (suc n) v h = grind (arith, nat_tests, complete-spelled n (v / 128) h)

pub value-spelled : (n v : ℕ) → Within n v → value (spelled_by n v) ≡ v
value-spelled zero v h = omega arith
value-spelled (suc n) v h = grind (arith, nat_tests, value-spelled n (v / 128) h)

within_bits : (v : ℕ) → v < 2 ^ 32 → Within 4 v
within_bits v h = omega arith

pub number_at-spell : (v : ℕ) (rest : List ℕ) → v < 2 ^ 32 → number_at (spell v ++ rest) ≡ Ok (record { value = v; rest = rest })
number_at-spell v rest h =
    let w : Within 4 v = within_bits v h in
    grind (arith, nat_tests, groups-spelled 4 v rest w, complete-spelled 4 v w, value-spelled 4 v w, same_refl (spell v), drop-append_seam (spell v) rest)

-- groups that are accepted are the spelling of their value
accepted_only : (gs bytes : List ℕ) (n : Read) → cond (complete gs) (cond (shortest gs) (Ok (record { value = value gs; rest = drop (length gs) bytes })) (Err BadNumber)) (cond (eqb (length gs) 5) (Err BadNumber) (Err EndsEarly)) ≡ Ok n → bytes ≡ gs ++ drop (length gs) bytes → (n.value < 2 ^ 32) × (bytes ≡ spell n.value ++ n.rest)
accepted_only gs bytes n h front =
    let same = same_eq gs (spell (value gs)) in
    (grind (arith, nat_tests), grind (arith, nat_tests, same))

pub number_at_only : (bytes : List ℕ) (n : Read) → number_at bytes ≡ Ok n → (n.value < 2 ^ 32) × (bytes ≡ spell n.value ++ n.rest)
number_at_only bytes n h = accepted_only (groups 5 bytes) bytes n h (groups-front 5 bytes)

pub one_spelling : OneSpelling
one_spelling = record { accepted = number_at-spell; only = number_at_only }
