-- What the readers of gates take from the front of a sheet's fields, against the format of the whole sheet.
use Rattle.std.specs.Prelude.{◌≡◌, ℕ, suc, List, [], ◌∷◌, ◌++◌, length, Ok, Err, Result}
use Rattle.refusals.specs.declared.Fault.{Fault}
use Rattle.numbers.specs.declared.fields.Fields.{Fields}
use Rattle.numbers.specs.Field.{rest_of, whole_of}
use Rattle.lists.specs.declared.bounded.Bounded.{Bounded}
use Rattle.lists.specs.Held.{list_of}
use Rattle.gates.specs.declared.gate.Gate.{Gate}
use Rattle.gates.specs.Sheet.{gates_left}

-- One gate over n poses, with more gates to come and some read before: the sheet goes on after the gate, or has the fault.
abbrev pub OneGate : ℕ → Fields → Fields → Result Gate Fault → Type 0
OneGate n before after (Ok g) =
    ((left : ℕ) (read : List Gate) → gates_left (whole_of before) n (suc left) read (rest_of before) ≡ gates_left (whole_of before) n left (read ++ (g ∷ [])) (rest_of after))
    × (whole_of after ≡ whole_of before)
OneGate n before after (Err e) = (left : ℕ) (read : List Gate) → gates_left (whole_of before) n (suc left) read (rest_of before) ≡ Err e

-- So many gates over n poses: after them no gate is left to come, or one of them has the fault.
abbrev pub GivesGates : ℕ → ℕ → Fields → Fields → Result (Bounded Gate 32) Fault → Type 0
GivesGates n count before after (Ok gs) =
    (gates_left (whole_of before) n count [] (rest_of before) ≡ gates_left (whole_of before) n 0 (list_of gs) (rest_of after))
    × (length (list_of gs) ≡ count) × (whole_of after ≡ whole_of before)
GivesGates n count before after (Err e) = gates_left (whole_of before) n count [] (rest_of before) ≡ Err e
