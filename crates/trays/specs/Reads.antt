-- What the reader of one cell takes from the fields of a sheet.
use Rattle.std.specs.Prelude.{◌≡◌, ℕ, Bool, cond, List, Ok, Err, Result, ◌==◌, nat_lt}
use Rattle.refusals.specs.declared.Fault.{Fault}
use Rattle.refusals.specs.declared.Refusal.TheVariants.{OutsideLimit}
use Rattle.numbers.specs.declared.fields.Fields.{Fields}
use Rattle.numbers.specs.Field.{rest_of, whole_of}
use Rattle.numbers.specs.Grammar.{byte, tested}
use Rattle.numbers.specs.Number.{Read}
use Rattle.trays.specs.Sheet.{spell_cell}

-- a byte is good where `free` cells are free before it
abbrev pub good_after : ℕ → ℕ → Bool
good_after free b = cond (b == 0x2e) (nat_lt free 32) (b == 0x23)

-- a good byte, and the bytes after it
abbrev pub cell_at : ℕ → List ℕ → List ℕ → Result Read Fault
cell_at free whole rest = byte whole rest (λ b after. tested (good_after free b) OutsideLimit whole rest (Ok (record { value = b; rest = after })))

-- Whether the cell is free: its spelling is taken from the front of the fields.
abbrev pub TakesCell : ℕ → Fields → Fields → Result Bool Fault → Type 0
TakesCell free before after (Ok x) =
    (cell_at free (whole_of before) (rest_of before) ≡ Ok (record { value = spell_cell x; rest = rest_of after })) × (whole_of after ≡ whole_of before)
TakesCell free before after (Err e) = cell_at free (whole_of before) (rest_of before) ≡ Err e
