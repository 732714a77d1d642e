-- The sheet of a tray: 2, the rows, the columns, then one byte for each cell, row by row: 2E (a dot) is free, 23 (a hash) is wall.
use Rattle.std.specs.Prelude.{ℕ, zero, suc, ◌*◌, Bool, true, false, cond, List, [], ◌∷◌, ◌++◌, Result, ◌==◌, nat_le, nat_lt}
use Rattle.refusals.specs.declared.Fault.{Fault}
use Rattle.refusals.specs.declared.Refusal.TheVariants.{OutsideLimit}
use Rattle.numbers.specs.Number.{spell}
use Rattle.numbers.specs.Grammar.{kinded, number, byte, tested, ended, within}
use Rattle.trays.specs.Tray.{Grid, frees}

-- The format: how a tray is spelled.
abbrev pub spell_cell : Bool → ℕ
spell_cell true = 0x2e
spell_cell false = 0x23

abbrev pub spell_cells : List Bool → List ℕ
spell_cells [] = []
spell_cells (c ∷ cs) = spell_cell c ∷ spell_cells cs

abbrev pub spell_tray : Grid → List ℕ
spell_tray t = 2 ∷ (spell t.rows ++ (spell t.columns ++ spell_cells t.cells))

-- What comes of any bytes: each field is tested as it is read.
-- a cell's byte is good: a wall, or free where fewer than 32 free cells came before it
abbrev pub good_cell : List Bool → ℕ → Bool
good_cell read b = cond (b == 0x2e) (nat_lt (frees read) 32) (b == 0x23)

-- the cells still to come, after those read; at the end some cell is free, and then nothing is left
abbrev pub cells_left : List ℕ → ℕ → ℕ → ℕ → List Bool → List ℕ → Result Grid Fault
cells_left whole rows columns zero read rest =
    tested (nat_le 1 (frees read)) OutsideLimit whole rest (ended whole rest (record { rows = rows; columns = columns; cells = read }))
cells_left whole rows columns (suc left) read rest =
    byte whole rest (λ b r₁. tested (good_cell read b) OutsideLimit whole rest (cells_left whole rows columns left (read ++ ((b == 0x2e) ∷ [])) r₁))

abbrev pub tray_fields : List ℕ → List ℕ → Result Grid Fault
tray_fields whole rest =
    number whole rest (λ rows r₁. tested (within 1 16 rows) OutsideLimit whole rest
    (number whole r₁ (λ columns r₂. tested (within 1 16 columns) OutsideLimit whole r₁
    (cells_left whole rows columns (rows * columns) [] r₂))))

abbrev pub tray_sheet : List ℕ → Result Grid Fault
tray_sheet whole = kinded 2 whole (tray_fields whole)
