-- The motion of a tray goes by the relation Tilts, which allows no other.
use Rattle.std.proofs.Common.{◌≡◌, ℕ, zero, suc, ◌/◌, ◌%◌, ◌<◌, Bool, true, false, List, [], ◌∷◌, get_or, sym, refl, ap, ◌∙◌, subst, inl, inr, arith}
use Rattle.std.proofs.lemmas.Nat.{div-add-mod', div-mul-add, mod-mul-add}
use Rattle.std.proofs.lemmas.Bool.{cases_order, both_ways, false≢true}
use Rattle.trays.specs.Tray.{Grid, Keeps, frees, cell_of, pose_at, free_ahead, ahead, Slides, Tilts, slid, tray_motion}
use Rattle.trays.specs.Cells.{pose_in}
use Rattle.trays.specs.Sliding.{held}
use Rattle.trays.specs.Tilting.{row_of, column_of, row_in, column_in, start_slides, end_free}

-- the pose at the cell of a pose is that pose
pub pose_cell : (cs : List Bool) (p : ℕ) → p < frees cs → pose_at cs (cell_of cs p) ≡ p
pose_cell [] p h = omega arith
pose_cell (true ∷ cs) zero h = refl
pose_cell (false ∷ cs) zero h = pose_cell cs zero h
pose_cell (true ∷ cs) (suc p) h = ap suc (pose_cell cs p (omega arith))
pose_cell (false ∷ cs) (suc p) h = pose_cell cs (suc p) h

-- a wall in front moves a pose's cell by one
past_wall : (cs : List Bool) (p : ℕ) → cell_of (false ∷ cs) p ≡ suc (cell_of cs p)
past_wall cs zero = refl
past_wall cs (suc p) = refl

-- the cell of the pose at a free cell is that cell
pub cell_pose : (cs : List Bool) (i : ℕ) → get_or cs i false ≡ true → cell_of cs (pose_at cs i) ≡ i
cell_pose [] i h = absurd (false≢true h)
cell_pose (true ∷ cs) zero h = refl
cell_pose (false ∷ cs) zero h = absurd (false≢true h)
cell_pose (true ∷ cs) (suc i) h = ap suc (cell_pose cs i h)
cell_pose (false ∷ cs) (suc i) h = past_wall cs (pose_at cs i) ∙ ap suc (cell_pose cs i h)

-- Of two slides neither is longer.
no_longer : (t : Grid) (a r c d e : ℕ) → Slides t a r c d → Slides t a r c e → d < e → ⊥
no_longer t a r c d e s u h = both_ways (free_ahead t a r c (suc d)) s.stops (held _ (u.over (suc d) h))

pub slides_once : (t : Grid) (a r c d e : ℕ) → Slides t a r c d → Slides t a r c e → d ≡ e
slides_once t a r c d e s u =
    elim (cases_order d e) [
      | inl same ↦ same
      | inr far ↦ elim far [ inl l ↦ absurd (no_longer t a r c d e s u l) | inr l ↦ absurd (no_longer t a r c e d u s l) ]
    ]

-- The motion goes by the relation.
pub motion_tilts : (t : Grid) → Keeps t → (p a : ℕ) → p < frees t.cells → Tilts t a p ((tray_motion t).next p a)
motion_tilts t k p a h = record {
  row = row_of t p;
  column = column_of t p;
  cells = slid t a (row_of t p) (column_of t p) 16 0;
  from = (row_in t k p h, column_in t k p, div-add-mod' (cell_of t.cells p) t.columns);
  slides = start_slides t k p a h;
  to = sym (cell_pose t.cells _ (end_free t k p a h));
  pose = pose_in t.cells _ (end_free t k p a h);
}

-- The relation allows one pose only.
pub tilts_once : (t : Grid) (a p q q₁ : ℕ) → Tilts t a p q → Tilts t a p q₁ → q ≡ q₁
tilts_once t a p q q₁ x y =
    sym (pose_cell t.cells q x.pose) ∙ ap (pose_at t.cells) (sym x.to ∙ same_end ∙ y.to) ∙ pose_cell t.cells q₁ y.pose
  where
    same_row : x.row ≡ y.row
    same_row = sym (div-mul-add x.row t.columns x.column x.from.1) ∙ ap (λ i. i / t.columns) (x.from.2 ∙ sym y.from.2) ∙ div-mul-add y.row t.columns y.column y.from.1

    same_column : x.column ≡ y.column
    same_column = sym (mod-mul-add x.row t.columns x.column x.from.1) ∙ ap (λ i. i % t.columns) (x.from.2 ∙ sym y.from.2) ∙ mod-mul-add y.row t.columns y.column y.from.1

    moved : Slides t a x.row x.column y.cells
    moved = subst (λ r. Slides t a r x.column y.cells) (sym same_row) (subst (λ c. Slides t a y.row c y.cells) (sym same_column) y.slides)

    same_end : ahead t a x.row x.column x.cells ≡ ahead t a y.row y.column y.cells
    same_end = ap (ahead t a x.row x.column) (slides_once t a x.row x.column x.cells y.cells x.slides moved) ∙ ap (λ r. ahead t a r x.column y.cells) same_row ∙ ap (λ c. ahead t a y.row c y.cells) same_column
