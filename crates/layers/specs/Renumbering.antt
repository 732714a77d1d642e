-- A renumbering layer: pose u(p) above is pose p below. n and k are those below.
use Rattle.std.specs.Prelude.{◌≡◌, ℕ, ◌<◌, ◌≤◌, cond, List, length, nat_le, slice_index}
use Rattle.feeders.specs.Motion.{Motion}

-- A table of numbers: `number p` is the number at place p, `place q` the place that holds q, for p and q below 32.
pub record Numbering : Type 0 where
  pub count : ℕ
  pub number : List ℕ
  pub place : List ℕ

-- The rule: each number from 0 to 31 stands in exactly one place, and every place from count on holds its own number.
pub record Keeps (t : Numbering) : Type 0 where
  pub few : t.count ≤ 32
  pub fits : length t.number ≡ 32
  pub inside : (p : ℕ) → p < t.count → slice_index t.number p < t.count
  pub own : (p : ℕ) → t.count ≤ p → p < 32 → slice_index t.number p ≡ p
  pub back : (q : ℕ) → q < 32 → (slice_index t.place q < 32) × (slice_index t.number (slice_index t.place q) ≡ q)
  pub forth : (p : ℕ) → p < 32 → slice_index t.place (slice_index t.number p) ≡ p

-- The number above of pose p of n, and the pose below of number q. Where the table counts more poses than there are, nothing is renumbered.
abbrev pub above : Numbering → ℕ → ℕ → ℕ
above t n p = cond (nat_le t.count n) (slice_index t.number p) p

abbrev pub below : Numbering → ℕ → ℕ → ℕ
below t n q = cond (nat_le t.count n) (slice_index t.place q) q

abbrev pub renumbered_motion : Motion → Numbering → Motion
renumbered_motion m t =
    record { poses = m.poses; actions = m.actions; next = λ q a. above t m.poses (m.next (below t m.poses q) a) }

-- Motion r is motion m with its poses renamed by u: u is one to one and onto on the poses, and the moves commute with it.
pub record Renames (u : ℕ → ℕ) (m r : Motion) : Type 0 where
  pub poses : r.poses ≡ m.poses
  pub actions : r.actions ≡ m.actions
  pub inside : (p : ℕ) → p < m.poses → u p < m.poses
  pub apart : (p q : ℕ) → p < m.poses → q < m.poses → u p ≡ u q → p ≡ q
  pub onto : (q : ℕ) → q < m.poses → (p : ℕ) × (p < m.poses) × (u p ≡ q)
  pub moves : (p a : ℕ) → p < m.poses → a < m.actions → r.next (u p) a ≡ u (m.next p a)
