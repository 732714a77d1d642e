-- Free cells and poses: a pose has a free cell, and a free cell has a pose.
use Rattle.std.specs.Prelude.{◌≡◌, ℕ, zero, suc, ◌<◌, Bool, true, false, List, [], ◌∷◌, length, slice_index_or, refl}
use Rattle.std.proofs.Common.{arith}
use Rattle.std.proofs.lemmas.Bool.{false≢true}
use Rattle.trays.specs.Tray.{frees, cell_of, pose_at}

-- a pose has a cell
pub cell_in : (cs : List Bool) (p : ℕ) → p < frees cs → cell_of cs p < length cs
cell_in [] p h = omega arith
cell_in (true ∷ cs) zero h = omega arith
cell_in (false ∷ cs) zero h = omega (arith, cell_in cs zero h)
cell_in (true ∷ cs) (suc p) h = omega (arith, cell_in cs p (omega arith))
cell_in (false ∷ cs) (suc p) h = omega (arith, cell_in cs (suc p) h)

-- and it is free
pub cell_free : (cs : List Bool) (p : ℕ) → p < frees cs → slice_index_or cs (cell_of cs p) false ≡ true
cell_free [] p h = let no : ⊥ = omega arith in absurd no
cell_free (true ∷ cs) zero h = refl
cell_free (false ∷ cs) zero h = cell_free cs zero h
cell_free (true ∷ cs) (suc p) h = cell_free cs p (omega arith)
cell_free (false ∷ cs) (suc p) h = cell_free cs (suc p) h

-- a free cell has a pose
pub pose_in : (cs : List Bool) (i : ℕ) → slice_index_or cs i false ≡ true → pose_at cs i < frees cs
pose_in [] i h = absurd (false≢true h)
pose_in (true ∷ cs) zero h = omega arith
pose_in (false ∷ cs) zero h = absurd (false≢true h)
pose_in (true ∷ cs) (suc i) h = omega (arith, pose_in cs i h)
pose_in (false ∷ cs) (suc i) h = pose_in cs i h
