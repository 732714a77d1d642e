-- Free cells, counted one by one, and as a chain of iterators does.
use Rattle.std.proofs.Common.{◌≡◌, ℕ, zero, suc, ◌+◌, Bool, true, false, cond, List, [], ◌∷◌, length, get_or, take, refl, ap, ◌∙◌, add-one, arith}
use Rattle.std.proofs.lemmas.Bool.{false≢true, true≢false}
use Rattle.std.proofs.lemmas.List.Sums.{sum_by-cons}
use Rattle.std.specs.List.{count_by}
use Rattle.trays.specs.Tray.{frees, pose_at}

-- the pose at a cell counts the free cells before it
pub pose_count : (cs : List Bool) (i : ℕ) → pose_at cs i ≡ count_by (λ x. x) (take i cs)
pose_count [] zero = refl
pose_count [] (suc i) = refl
pose_count (c ∷ cs) zero = refl
pose_count (true ∷ cs) (suc i) = omega (arith, pose_count cs i, sum_by-cons (λ x. cond x 1 0) true (take i cs))
pose_count (false ∷ cs) (suc i) = pose_count cs i

-- no cell is before the first
pub pose_none : (cs : List Bool) → pose_at cs 0 ≡ 0
pose_none [] = refl
pose_none (x ∷ cs) = refl

-- a free cell that is passed adds one
passed : (cs : List Bool) (i : ℕ) → get_or cs i false ≡ true → pose_at cs (suc i) ≡ suc (pose_at cs i)
passed [] i h = absurd (false≢true h)
passed (true ∷ cs) zero h = ap suc (pose_none cs)
passed (false ∷ cs) zero h = absurd (false≢true h)
passed (true ∷ cs) (suc i) h = ap suc (passed cs i h)
passed (false ∷ cs) (suc i) h = passed cs i h

-- and a wall nothing
past : (cs : List Bool) (i : ℕ) → get_or cs i false ≡ false → pose_at cs (suc i) ≡ pose_at cs i
past [] i h = refl
past (true ∷ cs) zero h = absurd (true≢false h)
past (false ∷ cs) zero h = pose_none cs
past (true ∷ cs) (suc i) h = ap suc (past cs i h)
past (false ∷ cs) (suc i) h = past cs i h

pub passed_free : (cs : List Bool) (i : ℕ) → get_or cs i false ≡ true → pose_at cs (i + 1) ≡ suc (pose_at cs i)
passed_free cs i h = ap (pose_at cs) (add-one i) ∙ passed cs i h

pub passed_wall : (cs : List Bool) (i : ℕ) → get_or cs i false ≡ false → pose_at cs (i + 1) ≡ pose_at cs i
passed_wall cs i h = ap (pose_at cs) (add-one i) ∙ past cs i h

-- past the last cell all are counted
pub passed_all : (cs : List Bool) → pose_at cs (length cs) ≡ frees cs
passed_all [] = refl
passed_all (true ∷ cs) = ap suc (passed_all cs)
passed_all (false ∷ cs) = passed_all cs
