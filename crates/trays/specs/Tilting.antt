-- The motion of a tray never leaves its poses.
use Rattle.std.specs.Prelude.{◌≡◌, ℕ, ◌/◌, ◌%◌, ◌<◌, true, false, get_or, nat_lt, slice_index_or}
use Rattle.std.proofs.Common.{ap, ◌∙◌, arith}
use Rattle.std.proofs.lemmas.Nat.{div_below, mod_below, div-add-mod'}
use Rattle.std.proofs.lemmas.Bool.{cond-true, lt-ltb}
use Rattle.feeders.specs.Motion.{Valid}
use Rattle.trays.specs.Tray.{Grid, Keeps, frees, cell_of, free, Slides, slid, slid_to, tray_motion}
use Rattle.trays.specs.Cells.{cell_in, cell_free, pose_in}
use Rattle.trays.specs.Sliding.{ahead-free, here_free, held, holds, slides}

abbrev pub row_of : Grid → ℕ → ℕ
row_of t p = cell_of t.cells p / t.columns

abbrev pub column_of : Grid → ℕ → ℕ
column_of t p = cell_of t.cells p % t.columns

-- the row and the column of a pose are inside the tray
pub row_in : (t : Grid) → Keeps t → (p : ℕ) → p < frees t.cells → row_of t p < t.rows
row_in t k p h = div_below _ _ _ k.some_column (omega (arith, cell_in t.cells p h, k.whole))

pub column_in : (t : Grid) → Keeps t → (p : ℕ) → column_of t p < t.columns
column_in t k p = mod_below _ _ k.some_column

-- and their cell is free
pub start-free : (t : Grid) → Keeps t → (p : ℕ) → p < frees t.cells → free t (row_of t p) (column_of t p) ≡ true
start-free t k p h =
    cond-true (nat_lt (row_of t p) t.rows) _ _ (lt-ltb _ _ (row_in t k p h))
    ∙ cond-true (nat_lt (column_of t p) t.columns) _ _ (lt-ltb _ _ (column_in t k p))
    ∙ ap (λ i. get_or t.cells i false) (div-add-mod' (cell_of t.cells p) t.columns)
    ∙ cell_free t.cells p h

-- the motion goes by a slide
pub start_slides : (t : Grid) → Keeps t → (p a : ℕ) → p < frees t.cells → Slides t a (row_of t p) (column_of t p) (slid t a (row_of t p) (column_of t p) 16 0)
start_slides t k p a h =
    slides t a (row_of t p) (column_of t p) k.few_rows k.few_columns (row_in t k p h) (column_in t k p)
    (holds _ (here_free t a (row_of t p) (column_of t p) (start-free t k p h)))

-- and where that ends, the cell is free
pub end_free : (t : Grid) → Keeps t → (p a : ℕ) → p < frees t.cells → slice_index_or t.cells (slid_to t a (row_of t p) (column_of t p)) false ≡ true
end_free t k p a h =
    ahead-free t a (row_of t p) (column_of t p) _ (held _ ((start_slides t k p a h).over _ (omega arith)))

-- No tilt leaves the poses.
pub tray_valid : (t : Grid) → Keeps t → Valid (tray_motion t)
tray_valid t k = record {
  some_pose = k.some_free;
  few_poses = k.few_free;
  some_action = omega arith;
  few_actions = omega arith;
  stays = λ p a hp ha. pose_in t.cells _ (end_free t k p a hp);
}
