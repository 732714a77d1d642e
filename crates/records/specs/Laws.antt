-- What plan records promise: one record for each plan, and faults where no record goes on.
use Rattle.std.specs.Prelude.{◌≡◌, ℕ, ◌⊎◌, List, [], ◌∷◌, ◌++◌, length, Ok, Err}
use Rattle.refusals.specs.declared.Fault.{Fault}
use Rattle.refusals.specs.declared.Refusal.{Refusal}
use Rattle.refusals.specs.declared.Refusal.TheVariants.{EndsEarly}
use Rattle.records.specs.Contents.{Contents, Keeps}
use Rattle.records.specs.Format.{spell}
use Rattle.records.specs.Reading.{fault_at, record_at}

-- Each plan that keeps the rule has one record.
pub record OneRecord : Type 0 where
  -- reading what was written gives the plan that was written, with nothing left over
  pub accepted : (c : Contents) → Keeps c → record_at (spell c) ≡ Ok c
  -- what is read is exactly what writing it gives
  pub only : (bytes : List ℕ) (c : Contents) → record_at bytes ≡ Ok c → Keeps c × (bytes ≡ spell c)
  -- so each plan has one record
  pub one : (bytes others : List ℕ) (c : Contents) → record_at bytes ≡ Ok c → record_at others ≡ Ok c → bytes ≡ others

-- some record begins with these bytes
abbrev pub Begins : List ℕ → Type 0
Begins front = (c : Contents) × (rest : List ℕ) × Keeps c × (spell c ≡ front ++ rest)

-- the bytes begin a record, and end early: the place is their length
abbrev pub Cut : List ℕ → Fault → Type 0
Cut bytes f = (f ≡ fault_at EndsEarly (length bytes)) × Begins bytes

-- any other fault: the place is that of the first byte with which no record goes on
pub record Stops (bytes : List ℕ) (f : Fault) : Type 0 where
  pub front : List ℕ
  pub byte : ℕ
  pub after : List ℕ
  pub split : bytes ≡ front ++ (byte ∷ after)
  pub refusal : Refusal
  pub not_early : refusal ≡ EndsEarly → ⊥
  pub fault : f ≡ fault_at refusal (length front)
  pub goes_on : Begins front
  pub no_further : Begins (front ++ (byte ∷ [])) → ⊥

-- Every refused record is one or the other.
abbrev pub FaultPlaces : Type 0
FaultPlaces = (bytes : List ℕ) (f : Fault) → record_at bytes ≡ Err f → Cut bytes f ⊎ Stops bytes f
