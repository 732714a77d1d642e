-- The lines of a script: each ends in LF, which is 10; the last one may lack it.
use Rattle.std.specs.Prelude.{◌≡◌, ℕ, ◌<◌, cond, ◌⊎◌, List, [], ◌∷◌, ◌++◌, length, ◌==◌, ◌≢◌}

-- b in front of the first line
abbrev pub onto : ℕ → List (List ℕ) → List (List ℕ)
onto b [] = (b ∷ []) ∷ []
onto b (line ∷ more) = (b ∷ line) ∷ more

-- No line follows a final LF, and an empty script has no lines.
abbrev pub lines_of : List ℕ → List (List ℕ)
lines_of [] = []
lines_of (b ∷ bs) = cond (b == 10) ([] ∷ lines_of bs) (onto b (lines_of bs))

-- no LF among the bytes
abbrev pub Unbroken : List ℕ → Type 0
Unbroken [] = Unit {0}
Unbroken (b ∷ bs) = (b ≢ 10) × Unbroken bs

-- the first line, and the bytes after it
pub record FirstLine (rest line after : List ℕ) : Type 0 where
  pub unbroken : Unbroken line
  -- its LF stands between the two; or no LF is there, and nothing after the line
  pub parted : (rest ≡ line ++ (10 ∷ after)) ⊎ ((rest ≡ line) × (after ≡ []))
  pub first : lines_of rest ≡ line ∷ lines_of after
  pub shorter : length after < length rest
