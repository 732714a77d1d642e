-- A series layer: its action i performs series i, a list of actions, on the feeder below.
use Rattle.std.specs.Prelude.{◌≡◌, ℕ, ◌<◌, ◌≤◌, cond, T, List, [], ◌∷◌, ◌++◌, length, nat_lt, slice_index_or}
use Rattle.feeders.specs.Motion.{Motion, brings}
use Rattle.feeders.specs.Sets.{all_below}
use Rattle.feeders.specs.Image.{image}

-- The rule of a series table: 1 to 16 series, each of at most 8 entries, each entry below 32.
pub record Keeps (ss : List (List ℕ)) : Type 0 where
  pub some : 1 ≤ length ss
  pub few : length ss ≤ 16
  pub short : (i : ℕ) → i < length ss → length (slice_index_or ss i []) ≤ 8
  pub entries : (i : ℕ) → i < length ss → T (all_below 32 (slice_index_or ss i []))

-- the entries that a feeder of k actions has; the others are passed over
abbrev pub present : ℕ → List ℕ → List ℕ
present k [] = []
present k (a ∷ w) = cond (nat_lt a k) (a ∷ present k w) (present k w)

-- what series i does on the feeder below
abbrev pub performs : Motion → List (List ℕ) → ℕ → List ℕ
performs m ss i = present m.actions (slice_index_or ss i [])

-- A pose goes where the entries of the series that exist below bring it.
abbrev pub series_motion : Motion → List (List ℕ) → Motion
series_motion m ss = record { poses = m.poses; actions = length ss; next = λ p i. brings m p (performs m ss i) }

-- a list of series, as the one list of actions below that it performs
abbrev pub unrolled : Motion → List (List ℕ) → List ℕ → List ℕ
unrolled m ss [] = []
unrolled m ss (i ∷ w) = performs m ss i ++ unrolled m ss w

-- Laws of a series layer: a list of series brings each pose, and each set of poses, where the unrolled list does.
pub record SeriesLaws (m : Motion) (ss : List (List ℕ)) : Type 0 where
  pub carries : (p : ℕ) (w : List ℕ) → brings (series_motion m ss) p w ≡ brings m p (unrolled m ss w)
  pub images : (s : ℕ) (w : List ℕ) → image (series_motion m ss) s w ≡ image m s (unrolled m ss w)
  pub exists : (w : List ℕ) → T (all_below m.actions (unrolled m ss w))
