-- From a pose to the cell where its slide ends, and to the pose there.
use Rattle.std.proofs.Common.{◌≡◌, ℕ, zero, suc, ◌+◌, ◌*◌, ◌/◌, ◌%◌, ◌<◌, ◌≤◌, true, false, T, ◌⊎◌, ltb, get_or, add-zero, Ok, None, Some, Option, MatchOption, unwrap_or, sym, ap, ◌∙◌, subst, inl, inr, arith}
use Rattle.std.proofs.lemmas.Nat.{div_below, mod_below, div-add-mod'}
use Rattle.std.proofs.Math.Nat.{sub-zero}
use Rattle.std.proofs.lemmas.Bool.{cond-true, lt-ltb}
use Rattle.feeders.specs.Motion.{follows}
use Rattle.trays.specs.declared.cell.Cell.{Cell}
use Rattle.trays.specs.declared.direction.Direction.{Direction}
use Rattle.trays.specs.declared.direction.Direction.TheVariants.{North, East, South, West}
use Rattle.trays.specs.Cell.{IsInside, HasPose, SlidesTo, IsFreeAhead, index_of}
use Rattle.trays.specs.Cells.{cell_in, cell_free, pose_in}
use Rattle.trays.specs.Directions.{tilt_of}
use Rattle.trays.specs.Sliding.{ahead-free, far_off, free_in, held, holds, here_free}
use Rattle.trays.specs.Tray.{Grid, Keeps, frees, cell_of, pose_at, free, free_ahead, ahead, Tilts, tray_motion}
use Rattle.trays.proofs.Passing.{IsLastPassed}
use Rattle.trays.proofs.Relation.{cell_pose, motion_tilts, tilts_once}

-- the cell at the index of a pose's cell has that pose
pub index_poses : (t : Grid) → Keeps t → (i p : ℕ) → p < frees t.cells → i ≡ cell_of t.cells p → HasPose t (record { row = i / t.columns; column = i % t.columns }) p
index_poses t k i p h e = record {
  inside = record {
    row_in = div_below _ _ _ k.some_column (omega (arith, cell_in t.cells p h, k.whole));
    column_in = mod_below _ _ k.some_column;
  };
  at = div-add-mod' i t.columns ∙ e;
  pose = h;
}

-- the cell of a pose is free
pub pose_free : (t : Grid) (c : Cell) (p : ℕ) → HasPose t c p → free t c.row c.column ≡ true
pose_free t c p h =
    cond-true (ltb c.row t.rows) _ _ (lt-ltb _ _ h.inside.row_in)
    ∙ cond-true (ltb c.column t.columns) _ _ (lt-ltb _ _ h.inside.column_in)
    ∙ ap (λ i. get_or t.cells i false) h.at
    ∙ cell_free t.cells p h.pose

-- no cell on from a cell is that cell
ahead_none : (t : Grid) (a r c : ℕ) → ahead t a r c 0 ≡ r * t.columns + c
ahead_none t zero r c = ap (λ k. k * t.columns + c) (sub-zero r)
ahead_none t (suc zero) r c = ap (λ k. r * t.columns + k) (add-zero c)
ahead_none t (suc (suc zero)) r c = ap (λ k. k * t.columns + c) (add-zero r)
ahead_none t (suc (suc (suc a))) r c = ap (λ k. r * t.columns + k) (sub-zero c)

-- the last cell passed is where the slide ends
pub passed_slides : (t : Grid) → Keeps t → (a : ℕ) (c : Cell) (last : Option Cell) → free t c.row c.column ≡ true → IsLastPassed 16 (IsFreeAhead t a c) last → SlidesTo t a c (unwrap_or last c)
passed_slides t k a c last is_free h = record {
  cells = h.passed;
  slides = record { over = over; stops = stops h.stops };
  inside = (stop last h.final).0;
  at = (stop last h.final).1;
}
  where
    inside : IsInside t c
    inside = let p = free_in t c.row c.column is_free in record { row_in = p.0; column_in = p.1 }

    over : (i : ℕ) → i ≤ h.passed → T (free_ahead t a c.row c.column i)
    over zero le = holds _ (here_free t a c.row c.column is_free)
    over (suc i) le = let at : 1 + i ≡ suc i = omega arith in holds _ (subst (λ j. free_ahead t a c.row c.column j ≡ true) at (h.each i le).1.0)

    stops : (h.passed ≡ 16) ⊎ (free_ahead t a c.row c.column (1 + h.passed) ≡ false) → free_ahead t a c.row c.column (suc h.passed) ≡ false
    stops (inl all) = far_off t a c.row c.column (suc h.passed) k.few_rows k.few_columns inside.row_in inside.column_in (omega arith)
    stops (inr e) = let at : 1 + h.passed ≡ suc h.passed = omega arith in subst (λ j. free_ahead t a c.row c.column j ≡ false) at e

    stop : (o : Option Cell) → MatchOption o (h.passed ≡ 0) (λ y. (0 < h.passed) × IsFreeAhead t a c h.passed (Some y)) → IsInside t (unwrap_or o c) × (index_of t (unwrap_or o c) ≡ ahead t a c.row c.column h.passed)
    stop None none = (inside, sym (ap (ahead t a c.row c.column) none ∙ ahead_none t a c.row c.column))
    stop (Some y) far = (far.1.1, far.1.2)

-- a slide between the cells of two poses is a tilt
pub slide_tilts : (t : Grid) (a p : ℕ) (c x : Cell) → HasPose t c p → SlidesTo t a c x → Tilts t a p (pose_at t.cells (index_of t x))
slide_tilts t a p c x h s =
    let end_free = ahead-free t a c.row c.column s.cells (held _ (s.slides.over s.cells (omega arith))) in
    record {
      row = c.row;
      column = c.column;
      cells = s.cells;
      from = (h.inside.row_in, h.inside.column_in, h.at);
      slides = s.slides;
      to = sym (cell_pose t.cells _ end_free) ∙ ap (λ i. cell_of t.cells (pose_at t.cells i)) (sym s.at);
      pose = rw s.at (pose_in t.cells _ end_free);
    }

-- there are four directions
four : (d : Direction) → tilt_of d < 4
four North = omega arith
four East = omega arith
four South = omega arith
four West = omega arith

-- the motion is the only tilt
pub tilt_follows : (t : Grid) → Keeps t → (d : Direction) (p q : ℕ) → p < frees t.cells → Tilts t (tilt_of d) p q → Ok q ≡ follows (tray_motion t) p (tilt_of d)
tilt_follows t k d p q has h =
    ap Ok (tilts_once t (tilt_of d) p q _ h (motion_tilts t k p (tilt_of d) has))
    ∙ sym (cond-true (ltb p (frees t.cells)) _ _ (lt-ltb _ _ has) ∙ cond-true (ltb (tilt_of d) 4) _ _ (lt-ltb _ _ (four d)))
