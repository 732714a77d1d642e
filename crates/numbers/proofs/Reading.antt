-- Reading group by group is number_at.
use Rattle.std.proofs.Common.{◌≡◌, ℕ, zero, suc, ◌+◌, ◌-◌, ◌*◌, ◌%◌, ◌^◌, ◌<◌, ◌≤◌, Bool, true, false, cond, eqb, ltb, List, [], ◌∷◌, length, get_or, drop, Ok, Err, Result, refl, ◌∙◌, arith}
use Rattle.std.specs.List.{between}
use Rattle.std.proofs.lemmas.Grind.{common_steps}
use Rattle.std.proofs.lemmas.Bool.Decides.{nat_tests}
use Rattle.refusals.specs.declared.Refusal.{Refusal}
use Rattle.refusals.specs.declared.Refusal.TheVariants.{EndsEarly, BadNumber}
use Rattle.numbers.specs.Number.{spelled_by, groups, value, complete, same_bytes, Read, number_at}
use Rattle.numbers.specs.Reading.{joined, read_by}

-- a group that calls for others is in the shortest spelling of the whole where they are in that of a higher part above 0
same_joined : (m b w : ℕ) (gs : List ℕ) → 128 ≤ b → same_bytes (b ∷ gs) (spelled_by (suc m) (b % 128 + 128 * w)) ≡ cond (ltb b 256) (cond (eqb w 0) false (same_bytes gs (spelled_by m w))) false
same_joined m b w gs h = grind (arith, nat_tests)

-- what is read where the groups are complete or not, in the shortest form or not, and as many as can be or not
abbrev answer : Read → Bool → Bool → Bool → Result Read Refusal
answer n done short full = cond done (cond (ltb n.value (2 ^ 32)) (cond short (Ok n) (Err BadNumber)) (Err BadNumber)) (cond full (Err BadNumber) (Err EndsEarly))

-- what is read from at most suc n groups gs
abbrev judged_by : ℕ → List ℕ → List ℕ → Result Read Refusal
judged_by n gs bytes =
    answer (record { value = value gs; rest = drop (length gs) bytes }) (complete gs) (same_bytes gs (spelled_by n (value gs)))
    (eqb (length gs) (suc n))

answer-joined : (b : ℕ) (n : Read) (done short full : Bool) → joined b (answer n done short full) ≡ answer (record { value = b % 128 + 128 * n.value; rest = n.rest }) done (cond (ltb b 256) (cond (eqb n.value 0) false short) false) full
answer-joined b n true true full = grind (arith, nat_tests)
answer-joined b n true false full = grind (arith, nat_tests)
answer-joined b n false short true = refl
answer-joined b n false short false = refl

-- one group more
judged-joined : (m b : ℕ) (gs bytes : List ℕ) → 128 ≤ b → joined b (judged_by m gs bytes) ≡ judged_by (suc m) (b ∷ gs) (b ∷ bytes)
judged-joined m b gs bytes h =
    answer-joined b (record { value = value gs; rest = drop (length gs) bytes }) (complete gs) (same_bytes gs (spelled_by m (value gs))) (eqb (length gs) (suc m))
    ∙ grind (arith, nat_tests, same_joined m b (value gs) gs h)

-- one group alone
judged_one : (n b : ℕ) (bytes : List ℕ) → b < 128 → Ok (record { value = b; rest = bytes }) ≡ judged_by n (b ∷ []) (b ∷ bytes)
judged_one zero b bytes h = grind (arith, nat_tests)
judged_one (suc n) b bytes h = grind (arith, nat_tests)

read_judged : (n : ℕ) (bytes : List ℕ) → read_by (suc n) bytes ≡ judged_by n (groups (suc n) bytes) bytes
read_judged n [] = grind (arith, nat_tests)
read_judged zero (b ∷ bytes) = grind (arith, nat_tests, judged_one 0 b bytes)
read_judged (suc m) (b ∷ bytes) = grind (arith, nat_tests, judged_one (suc m) b bytes, read_judged m bytes, judged-joined m b (groups (suc m) bytes) bytes)

pub read_by-number_at : (bytes : List ℕ) → read_by 5 bytes ≡ number_at bytes
read_by-number_at bytes = read_judged 4 bytes ∙ grind (arith, nat_tests)

-- one step of the reader over a slice whose first group calls for others
pub more_groups : (n : ℕ) (bytes : List ℕ) → 0 < n → 0 < length bytes → 128 ≤ get_or bytes 0 0 → read_by n bytes ≡ joined (get_or bytes 0 0) (read_by (n - 1) (between 1 (length bytes) bytes))
more_groups zero bytes some first h = absurd (omega arith)
more_groups (suc n) [] some first h = absurd (omega arith)
more_groups (suc n) (b ∷ bytes) some first h = grind (arith, common_steps)
