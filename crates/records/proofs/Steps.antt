-- How the reader goes on from a field, and from one action to the next.
use Rattle.std.proofs.Common.{◌≡◌, ℕ, ◌+◌, ◌-◌, ◌<◌, ◌≤◌, Bool, cond, ltb, List, [], ◌∷◌, length, get_or, Ok, Err, Result, refl, ap, arith}
use Rattle.std.proofs.lemmas.Bool.Decides.{nat_tests}
use Rattle.refusals.specs.declared.Fault.{Fault}
use Rattle.refusals.specs.declared.Refusal.TheVariants.{EndsEarly, LeftOver, OutsideLimit, PlanTooLong}
use Rattle.numbers.proofs.Grammar.{within_only}
use Rattle.numbers.specs.Field.{and_then}
use Rattle.numbers.specs.Grammar.{within}
use Rattle.numbers.specs.Number.{Read}
use Rattle.records.proofs.OneRecord.{field_only}
use Rattle.records.specs.Contents.{plan_with}
use Rattle.records.specs.Reading.{fault_at, field_at, fields_at, list_at}

-- tests that answer alike make fields alike
pub field_alike : (test other : ℕ → Bool) (place : ℕ) (rest : List ℕ) → ((b : ℕ) → test b ≡ other b) → field_at test place rest ≡ field_at other place rest
field_alike test other place [] same = refl
field_alike test other place (b ∷ rest) same =
    ap (λ ok. cond ok (Ok (record { value = b; rest = rest })) (Err (fault_at OutsideLimit place))) (same b)

-- the fields up to the end pose, whose highest value code has as n - 1
pub fields_end : (rest : List ℕ) (n k : Read) (r : Result Read Fault) → field_at (within 1 32) 1 rest ≡ Ok n → field_at (within 1 32) 2 n.rest ≡ Ok k → field_at (within 0 (n.value - 1)) 3 k.rest ≡ r → fields_at rest ≡ and_then r (λ e. and_then (list_at k.value [] e.rest) (λ list. Ok (plan_with n.value k.value e.value list)))
fields_end rest n k r first second third =
    let some : 1 ≤ n.value = (within_only 1 32 n.value (field_only (within 1 32) 1 rest n first).0).0 in
    let same : (b : ℕ) → ltb b n.value ≡ within 0 (n.value - 1) b = λ b. grind (arith, nat_tests) in
    rw (first, second, field_alike _ _ 3 k.rest same, third)

-- what comes of the bytes after i actions
pub list_cut : (k i : ℕ) (read after : List ℕ) → length read ≡ i → length after < 1 → list_at k read after ≡ Err (fault_at EndsEarly (4 + i))
list_cut k i read [] long none = rw long
list_cut k i read (b ∷ after) long none = absurd (omega arith)

pub list_too_long : (k i : ℕ) (read after : List ℕ) → k ≤ 32 → length read ≡ i → 1 ≤ length after → get_or after 0 0 < k → i ≡ 16384 → list_at k read after ≡ Err (fault_at PlanTooLong (4 + i))
list_too_long k i read [] few long some lt full = absurd (omega arith)
list_too_long k i read (b ∷ after) few long some lt full = grind (arith, nat_tests)

pub list_outside : (k i : ℕ) (read after : List ℕ) → length read ≡ i → 1 ≤ length after → (get_or after 0 0 ≡ 32 → ⊥) → k ≤ get_or after 0 0 → list_at k read after ≡ Err (fault_at OutsideLimit (4 + i))
list_outside k i read [] long some ne out = absurd (omega arith)
list_outside k i read (b ∷ after) long some ne out = grind (arith, nat_tests)

pub list_left_over : (k i : ℕ) (read after : List ℕ) → length read ≡ i → 2 ≤ length after → get_or after 0 0 ≡ 32 → list_at k read after ≡ Err (fault_at LeftOver (4 + i + 1))
list_left_over k i read [] long some is = absurd (omega arith)
list_left_over k i read (b ∷ []) long some is = absurd (omega arith)
list_left_over k i read (b ∷ (x ∷ after)) long some is = grind (arith, nat_tests)

pub list_ended : (k : ℕ) (read after : List ℕ) → length after ≡ 1 → get_or after 0 0 ≡ 32 → list_at k read after ≡ Ok read
list_ended k read [] one is = absurd (omega arith)
list_ended k read (b ∷ []) one is = grind (arith, nat_tests)
list_ended k read (b ∷ (x ∷ after)) one is = absurd (omega arith)
