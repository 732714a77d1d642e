-- Cells by row and column: which is ahead, which pose has it, and where a slide ends.
use Rattle.std.specs.Prelude.{◌≡◌, ℕ, ◌+◌, ◌-◌, ◌*◌, ◌^◌, ◌<◌, ◌≤◌, true, false, Option, SomeIff, MatchOption}
use Rattle.trays.specs.declared.cell.Cell.{Cell}
use Rattle.trays.specs.declared.direction.Direction.{Direction}
use Rattle.trays.specs.declared.direction.Direction.TheVariants.{North, East, South, West}
use Rattle.trays.specs.Tray.{Grid, frees, cell_of, free_ahead, ahead, Slides}

-- the cell that is i cells on from c, unless its row or its column would be no number of 32 bits
abbrev pub IsAhead : Cell → Direction → ℕ → Option Cell → Type 0
IsAhead c North i r = SomeIff r (i ≤ c.row) (record { row = c.row - i; column = c.column })
IsAhead c East i r = SomeIff r (c.column + i < 2 ^ 32) (record { row = c.row; column = c.column + i })
IsAhead c South i r = SomeIff r (c.row + i < 2 ^ 32) (record { row = c.row + i; column = c.column })
IsAhead c West i r = SomeIff r (i ≤ c.column) (record { row = c.row; column = c.column - i })

-- the tray has the cell
pub record IsInside (t : Grid) (c : Cell) : Type 0 where
  pub row_in : c.row < t.rows
  pub column_in : c.column < t.columns

-- the index of a cell
abbrev pub index_of : Grid → Cell → ℕ
index_of t c = c.row * t.columns + c.column

-- the cell i cells on from c under tilt a, where the tray has it and it is free
abbrev pub IsFreeAhead : Grid → ℕ → Cell → ℕ → Option Cell → Type 0
IsFreeAhead t a c i r = MatchOption r (free_ahead t a c.row c.column i ≡ false) (λ x. (free_ahead t a c.row c.column i ≡ true) × IsInside t x × (index_of t x ≡ ahead t a c.row c.column i))

-- the cell c is that of pose p
pub record HasPose (t : Grid) (c : Cell) (p : ℕ) : Type 0 where
  pub inside : IsInside t c
  pub at : index_of t c ≡ cell_of t.cells p
  pub pose : p < frees t.cells

-- under tilt a, a part slides from the cell c to the cell x
pub record SlidesTo (t : Grid) (a : ℕ) (c x : Cell) : Type 0 where
  pub cells : ℕ
  pub slides : Slides t a c.row c.column cells
  pub inside : IsInside t x
  pub at : index_of t x ≡ ahead t a c.row c.column cells
