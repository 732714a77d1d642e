-- What a format of sheets promises, whatever it describes.
use Rattle.std.specs.Prelude.{◌≡◌, ℕ, List, Ok, Result}
use Rattle.refusals.specs.declared.Fault.{Fault}

-- A sheet is accepted exactly when it is the spelling of something that keeps the rule, and then that is what is read.
-- So whatever keeps the rule has one sheet.
pub record OneSheet {X : Type 0} (Keeps : X → Type 0) (spelled : X → List ℕ) (read : List ℕ → Result X Fault) : Type 0 where
  pub accepted : (t : X) → Keeps t → read (spelled t) ≡ Ok t
  pub only : (sheet : List ℕ) (t : X) → read sheet ≡ Ok t → Keeps t × (sheet ≡ spelled t)
