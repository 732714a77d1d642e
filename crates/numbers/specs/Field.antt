-- The fields of a sheet, each read by itself: what follows it comes later (proofs/Field.antt).
use Rattle.std.specs.Prelude.{◌≡◌, ℕ, Bool, List, Ok, Err, Result}
use Rattle.refusals.specs.declared.Fault.{Fault}
use Rattle.refusals.specs.declared.Refusal.{Refusal}
use Rattle.numbers.specs.declared.Number.{Number}
use Rattle.numbers.specs.declared.fields.Fields.{Fields}
use Rattle.numbers.specs.Grammar.{number, byte, tested, kinded}
use Rattle.numbers.specs.Number.{Read}

-- a number that passes a test, and the bytes after it
abbrev pub field_at : (ℕ → Bool) → Refusal → List ℕ → List ℕ → Result Read Fault
field_at test e whole rest = number whole rest (λ v after. tested (test v) e whole rest (Ok (record { value = v; rest = after })))

-- a number with no test, and the bytes after it
abbrev pub number_in : List ℕ → List ℕ → Result Read Fault
number_in whole rest = number whole rest (λ v after. Ok (record { value = v; rest = after }))

-- one byte, and the bytes after it
abbrev pub byte_at : List ℕ → List ℕ → Result Read Fault
byte_at whole rest = byte whole rest (λ b after. Ok (record { value = b; rest = after }))

-- what a number in code holds
abbrev pub read_of : Number → Read
read_of n = record { value = n.value; rest = n.rest.now }

-- one part of a sheet after another: the first fault is that of both
abbrev pub and_then : {X Y : Type 0} → Result X Fault → (X → Result Y Fault) → Result Y Fault
and_then (Ok x) go = go x
and_then (Err e) go = Err e

-- the sheet whose fields these are, and the end of it that is not read yet
abbrev pub whole_of : Fields → List ℕ
whole_of f = f.whole.now

abbrev pub rest_of : Fields → List ℕ
rest_of f = f.rest.now

-- What a reader takes from the front of the fields: its value, and the fields are those after it.
-- A refused reader leaves them as they were.
abbrev pub Takes : (List ℕ → List ℕ → Result Read Fault) → Fields → Fields → Result ℕ Fault → Type 0
Takes reader before after (Ok v) =
    (reader (whole_of before) (rest_of before) ≡ Ok (record { value = v; rest = rest_of after })) × (whole_of after ≡ whole_of before)
Takes reader before after (Err e) = (reader (whole_of before) (rest_of before) ≡ Err e) × (after ≡ before)

-- The fields of a sheet of one kind, after its kind byte.
abbrev pub OfKind : ℕ → List ℕ → Result Fields Fault → Type 0
OfKind kind sheet (Ok f) = (kinded kind sheet (λ rest. Ok rest) ≡ Ok (rest_of f)) × (whole_of f ≡ sheet)
OfKind kind sheet (Err e) = kinded kind sheet (λ rest. Ok rest) ≡ Err e
