-- The words in which the sheets' formats are written. `whole` is the sheet, `rest` what is not read yet.
use Rattle.std.specs.Prelude.{ℕ, ◌-◌, Bool, false, cond, List, [], ◌∷◌, length, Ok, Err, Result, ◌==◌, nat_le}
use Rattle.refusals.specs.declared.Refusal.{Refusal}
use Rattle.refusals.specs.declared.Refusal.TheVariants.{EndsEarly, WrongKind, LeftOver}
use Rattle.refusals.specs.Numbers.{number_of}
use Rattle.refusals.specs.declared.Reader.{Reader}
use Rattle.refusals.specs.declared.Reader.TheVariants.{Number, Sheet}
use Rattle.refusals.specs.declared.Fault.{Fault}
use Rattle.numbers.specs.Number.{number_at}

-- the place of the first byte of rest
abbrev pub place : List ℕ → List ℕ → ℕ
place whole rest = length whole - length rest

-- bytes that end early: the place is the length of the whole
abbrev pub cut_short : Reader → List ℕ → Fault
cut_short who whole = record { refusal = EndsEarly; place = length whole; reader = who }

-- any other fault: the place is the first byte of the field, which starts at rest
abbrev pub fault_at : Refusal → Reader → List ℕ → List ℕ → Fault
fault_at e who whole rest = record { refusal = e; place = place whole rest; reader = who }

-- the number reader's fault
abbrev pub number_fault : List ℕ → List ℕ → Refusal → Fault
number_fault whole rest e = cond (number_of e == 10) (cut_short Number whole) (fault_at e Number whole rest)

-- A number field; what follows depends on its value.
abbrev pub number : {X : Type 0} → List ℕ → List ℕ → (ℕ → List ℕ → Result X Fault) → Result X Fault
number whole rest go = elim (number_at rest) [ Ok n ↦ go n.value n.rest | Err e ↦ Err (number_fault whole rest e) ]

-- A field of one byte.
abbrev pub byte : {X : Type 0} → List ℕ → List ℕ → (ℕ → List ℕ → Result X Fault) → Result X Fault
byte whole [] go = Err (cut_short Sheet whole)
byte whole (b ∷ rest) go = go b rest

-- A test of the field that starts at rest: what follows it, or the sheet reader's fault there.
abbrev pub tested : {X : Type 0} → Bool → Refusal → List ℕ → List ℕ → Result X Fault → Result X Fault
tested ok e whole rest go = cond ok go (Err (fault_at e Sheet whole rest))

-- After the last field nothing is left.
abbrev pub ended : {X : Type 0} → List ℕ → List ℕ → X → Result X Fault
ended whole [] x = Ok x
ended whole (b ∷ rest) x = Err (fault_at LeftOver Sheet whole (b ∷ rest))

-- The kind byte in front of the fields.
abbrev pub kinded : {X : Type 0} → ℕ → List ℕ → (List ℕ → Result X Fault) → Result X Fault
kinded k [] go = Err (cut_short Sheet [])
kinded k (b ∷ rest) go = cond (b == k) (go rest) (Err (fault_at WrongKind Sheet (b ∷ rest) (b ∷ rest)))

-- v is at least low and at most high
abbrev pub within : ℕ → ℕ → ℕ → Bool
within low high v = cond (nat_le low v) (nat_le v high) false
