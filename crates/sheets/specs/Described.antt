-- What a sheet of any kind describes. The first byte is the kind, and chooses the format of the rest.
use Rattle.std.specs.Prelude.{ℕ, cond, List, [], ◌∷◌, Ok, Err, Result, ◌==◌}
use Rattle.refusals.specs.declared.Fault.{Fault}
use Rattle.refusals.specs.declared.Reader.TheVariants.{Sheet}
use Rattle.refusals.specs.declared.Refusal.TheVariants.{WrongKind}
use Rattle.feeders.specs.Motion.{Motion}
use Rattle.numbers.specs.Grammar.{cut_short, fault_at}
use Rattle.squeeze.specs.Squeeze as squeeze
use Rattle.squeeze.specs.Sheet.{squeeze_fields, spell_squeeze}
use Rattle.trays.specs.Tray as trays
use Rattle.trays.specs.Sheet.{tray_fields, spell_tray}
use Rattle.gates.specs.Gates as gates
use Rattle.gates.specs.Sheet.{gate_fields, spell_row}

pub data Described : Type 0 where
  jaws : squeeze.Squeeze → Described
  tray : trays.Grid → Described
  row : gates.Gates → Described

-- the rule of its kind
abbrev pub Keeps : Described → Type 0
Keeps (jaws t) = squeeze.Keeps t
Keeps (tray t) = trays.Keeps t
Keeps (row t) = gates.Keeps t

-- the motion of its kind
abbrev pub motion_of : Described → Motion
motion_of (jaws t) = squeeze.squeeze_motion t
motion_of (tray t) = trays.tray_motion t
motion_of (row t) = gates.gate_motion t

-- the sheet of its kind
abbrev pub spelled : Described → List ℕ
spelled (jaws t) = spell_squeeze t
spelled (tray t) = spell_tray t
spelled (row t) = spell_row t

abbrev pub on_ok : {X Y : Type 0} → (X → Y) → Result X Fault → Result Y Fault
on_ok f (Ok x) = Ok (f x)
on_ok f (Err e) = Err e

-- what comes of any bytes
abbrev pub described : List ℕ → Result Described Fault
described [] = Err (cut_short Sheet [])
described (kind ∷ fields) =
    cond (kind == 1) (on_ok jaws (squeeze_fields (kind ∷ fields) fields))
    (cond (kind == 2) (on_ok tray (tray_fields (kind ∷ fields) fields))
    (cond (kind == 3) (on_ok row (gate_fields (kind ∷ fields) fields))
    (Err (fault_at WrongKind Sheet (kind ∷ fields) (kind ∷ fields)))))
