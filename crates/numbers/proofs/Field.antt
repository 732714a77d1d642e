-- A number field of a sheet: what follows it, or its fault.
use Rattle.std.proofs.Common.{◌≡◌, ℕ, ◌^◌, ◌<◌, Bool, true, ltb, List, [], ◌∷◌, ◌++◌, Ok, Err, Result, refl, ap, ◌∙◌, arith}
use Rattle.refusals.specs.declared.Refusal.{Refusal}
use Rattle.refusals.specs.declared.Refusal.TheVariants.{OutsideLimit}
use Rattle.refusals.specs.declared.Fault.{Fault}
use Rattle.numbers.specs.Number.{Read, number_at, spell}
use Rattle.numbers.specs.Field.{field_at, and_then, number_in, byte_at, whole_of, rest_of, Takes, OfKind}
use Rattle.std.proofs.lemmas.Bool.Decides.{nat_tests}
use Rattle.numbers.specs.declared.fields.Fields.{Fields}
use Rattle.numbers.specs.Grammar.{number, byte, number_fault, tested, ended, kinded, within}
use Rattle.numbers.proofs.Spelling.{number_at-spell, number_at_only}

-- the field, from what was read
abbrev field : {X : Type 0} → List ℕ → List ℕ → (ℕ → List ℕ → Result X Fault) → Result Read Refusal → Result X Fault
field whole rest go r = elim r [ Ok n ↦ go n.value n.rest | Err e ↦ Err (number_fault whole rest e) ]

pub number-spell : {X : Type 0} (whole : List ℕ) (v : ℕ) (after : List ℕ) (go : ℕ → List ℕ → Result X Fault) → v < 2 ^ 32 → number whole (spell v ++ after) go ≡ go v after
number-spell whole v after go h = grind (arith, number_at-spell v after h)

field_only : {X : Type 0} (whole rest : List ℕ) (go : ℕ → List ℕ → Result X Fault) (x : X) (r : Result Read Refusal) → number_at rest ≡ r → field whole rest go r ≡ Ok x → (v : ℕ) × (after : List ℕ) × (v < 2 ^ 32) × (rest ≡ spell v ++ after) × (go v after ≡ Ok x)
field_only whole rest go x (Ok n) h f = let p = number_at_only rest n h in (n.value, n.rest, p.0, p.1, f)
field_only whole rest go x (Err e) h f = cc

-- a number field that is accepted is the spelling of a number, and what follows accepts the bytes after it
pub number_only : {X : Type 0} (whole rest : List ℕ) (go : ℕ → List ℕ → Result X Fault) (x : X) → number whole rest go ≡ Ok x → (v : ℕ) × (after : List ℕ) × (v < 2 ^ 32) × (rest ≡ spell v ++ after) × (go v after ≡ Ok x)
number_only whole rest go x h = field_only whole rest go x (number_at rest) refl h

-- A field with a test: what follows it follows what the field gives by itself.
pub test_then : {X : Type 0} (ok : Bool) (e : Refusal) (whole rest : List ℕ) (n : Read) (go : Read → Result X Fault) → tested ok e whole rest (go n) ≡ and_then (tested ok e whole rest (Ok n)) go
test_then ok e whole rest n go = grind arith

pub field_then : {X : Type 0} (test : ℕ → Bool) (e : Refusal) (whole rest : List ℕ) (go : Read → Result X Fault) → number whole rest (λ v after. tested (test v) e whole rest (go (record { value = v; rest = after }))) ≡ and_then (field_at test e whole rest) go
field_then {X} test e whole rest go = by (number_at rest)
  where
    by : (r : Result Read Refusal) → field whole rest (λ v after. tested (test v) e whole rest (go (record { value = v; rest = after }))) r ≡ and_then (field whole rest (λ v after. tested (test v) e whole rest (Ok (record { value = v; rest = after }))) r) go
    by (Ok n) = test_then (test n.value) e whole rest n go
    by (Err f) = refl

-- the two tests that sheets have most: from low to high, and below an end
abbrev pub limited_at : ℕ → ℕ → List ℕ → List ℕ → Result Read Fault
limited_at low high whole rest = field_at (within low high) OutsideLimit whole rest

abbrev pub below_at : ℕ → List ℕ → List ℕ → Result Read Fault
below_at end whole rest = field_at (λ v. ltb v end) OutsideLimit whole rest

-- the fault has the refusal that it was made for
pub number_fault_refusal : (whole rest : List ℕ) (e : Refusal) → (number_fault whole rest e).refusal ≡ e
number_fault_refusal whole rest e = grind (arith, nat_tests)

-- The same for a number with no test, and for one byte.
pub number_then : {X : Type 0} (whole rest : List ℕ) (go : Read → Result X Fault) → number whole rest (λ v after. go (record { value = v; rest = after })) ≡ and_then (number_in whole rest) go
number_then whole rest go = field_then (λ v. true) OutsideLimit whole rest go

pub byte_then : {X : Type 0} (whole rest : List ℕ) (go : Read → Result X Fault) → byte whole rest (λ b after. go (record { value = b; rest = after })) ≡ and_then (byte_at whole rest) go
byte_then whole [] go = refl
byte_then whole (b ∷ rest) go = refl

-- What a reader took from the front of a sheet's fields: what follows it goes on from the fields after it, or has its fault.
-- `whole` is the sheet, whatever was taken before.
pub takes_then : {X : Type 0} (reader : List ℕ → List ℕ → Result Read Fault) (whole : List ℕ) (before after : Fields) (r : Result ℕ Fault) (go : Read → Result X Fault) → whole_of before ≡ whole → Takes reader before after r → and_then (reader whole (rest_of before)) go ≡ and_then r (λ v. go (record { value = v; rest = rest_of after }))
takes_then reader whole before after (Ok v) go is h = grind arith
takes_then reader whole before after (Err e) go is h = grind arith

-- what was taken leaves the sheet as it was
pub takes_whole : (reader : List ℕ → List ℕ → Result Read Fault) (before after : Fields) (r : Result ℕ Fault) → Takes reader before after r → whole_of after ≡ whole_of before
takes_whole reader before after (Ok v) h = h.1
takes_whole reader before after (Err e) h = ap (λ f. whole_of f) h.1

-- so for a number that passes a test, for a number with no test, and for one byte
pub field_takes : {X : Type 0} (test : ℕ → Bool) (e : Refusal) (whole : List ℕ) (before after : Fields) (r : Result ℕ Fault) (go : ℕ → List ℕ → Result X Fault) → whole_of before ≡ whole → Takes (field_at test e) before after r → number whole (rest_of before) (λ v rest. tested (test v) e whole (rest_of before) (go v rest)) ≡ and_then r (λ v. go v (rest_of after))
field_takes test e whole before after r go is h =
    field_then test e whole (rest_of before) (λ q. go q.value q.rest) ∙ takes_then (field_at test e) whole before after r (λ q. go q.value q.rest) is h

pub number_takes : {X : Type 0} (whole : List ℕ) (before after : Fields) (r : Result ℕ Fault) (go : ℕ → List ℕ → Result X Fault) → whole_of before ≡ whole → Takes number_in before after r → number whole (rest_of before) go ≡ and_then r (λ v. go v (rest_of after))
number_takes whole before after r go is h =
    number_then whole (rest_of before) (λ q. go q.value q.rest) ∙ takes_then number_in whole before after r (λ q. go q.value q.rest) is h

pub byte_takes : {X : Type 0} (whole : List ℕ) (before after : Fields) (r : Result ℕ Fault) (go : ℕ → List ℕ → Result X Fault) → whole_of before ≡ whole → Takes byte_at before after r → byte whole (rest_of before) go ≡ and_then r (λ b. go b (rest_of after))
byte_takes whole before after r go is h =
    byte_then whole (rest_of before) (λ q. go q.value q.rest) ∙ takes_then byte_at whole before after r (λ q. go q.value q.rest) is h

-- the end that code has, in a wider type, is that of the format
pub takes_below : (end n : ℕ) (before after : Fields) (r : Result ℕ Fault) → end ≡ n → Takes (below_at end) before after r → Takes (below_at n) before after r
takes_below end n before after (Ok v) is h = grind arith
takes_below end n before after (Err e) is h = grind arith

-- What ends a sheet is that nothing is left, and then what was read.
pub ended_then : {X : Type 0} (whole rest : List ℕ) (x : X) → ended whole rest x ≡ and_then (ended whole rest (tt {0})) (λ u. Ok x)
ended_then whole [] x = refl
ended_then whole (b ∷ rest) x = refl

-- A sheet of one kind is what its fields are, and another has the fault.
kinded_then : {X : Type 0} (k : ℕ) (sheet : List ℕ) (go : List ℕ → Result X Fault) → kinded k sheet go ≡ and_then (kinded k sheet (λ rest. Ok rest)) go
kinded_then k [] go = refl
kinded_then k (b ∷ rest) go = grind (arith, nat_tests)

pub kind_takes : {X : Type 0} (k : ℕ) (sheet : List ℕ) (r : Result Fields Fault) (go : List ℕ → List ℕ → Result X Fault) → OfKind k sheet r → kinded k sheet (go sheet) ≡ and_then r (λ f. go (whole_of f) (rest_of f))
kind_takes k sheet (Ok f) go h = grind (arith, kinded_then k sheet (go sheet))
kind_takes k sheet (Err e) go h = grind (arith, kinded_then k sheet (go sheet))
