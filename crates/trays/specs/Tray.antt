-- A tray: rows and columns of cells, free or wall. Its poses are the free cells, numbered row by row from the top left.
use Rattle.std.specs.Prelude.{◌≡◌, ℕ, zero, suc, ◌+◌, ◌-◌, ◌*◌, ◌/◌, ◌%◌, ◌<◌, ◌≤◌, Bool, true, false, cond, T, List, [], ◌∷◌, length, nat_le, nat_lt, slice_index_or}
use Rattle.feeders.specs.Motion.{Motion}

pub record Grid : Type 0 where
  pub rows : ℕ
  pub columns : ℕ
  pub cells : List Bool  -- row by row; true is free, false is wall

-- how many cells are free
abbrev pub frees : List Bool → ℕ
frees [] = 0
frees (c ∷ cs) = cond c (suc (frees cs)) (frees cs)

-- The rule of a tray: 1 to 16 rows and columns, one entry for each cell, 1 to 32 free cells.
pub record Keeps (t : Grid) : Type 0 where
  pub some_row : 1 ≤ t.rows
  pub few_rows : t.rows ≤ 16
  pub some_column : 1 ≤ t.columns
  pub few_columns : t.columns ≤ 16
  pub whole : length t.cells ≡ t.rows * t.columns
  pub some_free : 1 ≤ frees t.cells
  pub few_free : frees t.cells ≤ 32

-- The place of pose p: the index of the free cell that p free cells precede.
abbrev pub cell_of : List Bool → ℕ → ℕ
cell_of [] p = 0
cell_of (c ∷ cs) zero = cond c 0 (suc (cell_of cs zero))
cell_of (c ∷ cs) (suc p) = suc (cell_of cs (cond c p (suc p)))

-- The pose at a cell: how many free cells precede it.
abbrev pub pose_at : List Bool → ℕ → ℕ
pose_at [] i = 0
pose_at (c ∷ cs) zero = 0
pose_at (c ∷ cs) (suc i) = cond c (suc (pose_at cs i)) (pose_at cs i)

-- the tray has the cell of row r and column c, and it is free
abbrev pub free : Grid → ℕ → ℕ → Bool
free t r c = cond (nat_lt r t.rows) (cond (nat_lt c t.columns) (slice_index_or t.cells (r * t.columns + c) false) false) false

-- the cell that is i cells from row r and column c in the direction of a tilt: 0 north (up), 1 east, 2 south, any other west
-- the tray has it, and it is free
abbrev pub free_ahead : Grid → ℕ → ℕ → ℕ → ℕ → Bool
free_ahead t zero r c i = cond (nat_le i r) (free t (r - i) c) false
free_ahead t (suc zero) r c i = free t r (c + i)
free_ahead t (suc (suc zero)) r c i = free t (r + i) c
free_ahead t (suc (suc (suc a))) r c i = cond (nat_le i c) (free t r (c - i)) false

-- the index of that cell
abbrev pub ahead : Grid → ℕ → ℕ → ℕ → ℕ → ℕ
ahead t zero r c i = (r - i) * t.columns + c
ahead t (suc zero) r c i = r * t.columns + (c + i)
ahead t (suc (suc zero)) r c i = (r + i) * t.columns + c
ahead t (suc (suc (suc a))) r c i = r * t.columns + (c - i)

-- A part that starts at row r and column c slides d cells under tilt a: over free cells only, and the next is a wall or the rim.
pub record Slides (t : Grid) (a r c d : ℕ) : Type 0 where
  pub over : (i : ℕ) → i ≤ d → T (free_ahead t a r c i)
  pub stops : free_ahead t a r c (suc d) ≡ false

-- Under tilt a, pose p goes to pose q: it slides from the cell of p to the cell of q.
pub record Tilts (t : Grid) (a p q : ℕ) : Type 0 where
  pub row : ℕ
  pub column : ℕ
  pub cells : ℕ
  pub from : (row < t.rows) × (column < t.columns) × (row * t.columns + column ≡ cell_of t.cells p)
  pub slides : Slides t a row column cells
  pub to : ahead t a row column cells ≡ cell_of t.cells q
  pub pose : q < frees t.cells

-- how far a part slides: on from d while the next cell is free, n cells more at the most
abbrev pub slid : Grid → ℕ → ℕ → ℕ → ℕ → ℕ → ℕ
slid t a r c zero d = d
slid t a r c (suc n) d = elim (free_ahead t a r c (suc d)) [ true ↦ slid t a r c n (suc d) | false ↦ d ]

-- Where the tilt brings the part that lies at a cell: no slide is longer than 16 cells.
abbrev pub slid_to : Grid → ℕ → ℕ → ℕ → ℕ
slid_to t a r c = ahead t a r c (slid t a r c 16 0)

-- Actions 0 to 3 tilt north, east, south and west: Tilts says where each pose goes.
abbrev pub tray_motion : Grid → Motion
tray_motion t =
    record { poses = frees t.cells; actions = 4; next = λ p a. pose_at t.cells (slid_to t a (cell_of t.cells p / t.columns) (cell_of t.cells p % t.columns)) }
