-- The pair rule: how a plan is made that brings a set of poses to one.
use Rattle.std.specs.Prelude.{◌≡◌, ℕ, zero, suc, ◌-◌, ◌*◌, ◌^◌, ◌<◌, ◌≤◌, cond, T, ◌⊎◌, List, [], ◌++◌, length}
use Rattle.feeders.specs.Motion.{Motion}
use Rattle.feeders.specs.Sets.{has}
use Rattle.feeders.specs.Image.{image}
use Rattle.graphs.specs.Distance.{Distance, NoDistance, Way, AllUsable}
use Rattle.graphs.specs.Pairs.{start, pair_node, pair_graph}

-- how many of the numbers below n belong to s
abbrev pub members : ℕ → ℕ → ℕ
members zero s = 0
members (suc p) s = cond (has s p) (suc (members p s)) (members p s)

-- how many poses a set has
abbrev pub size_of : ℕ → ℕ
size_of s = members 32 s

-- s has one pose
abbrev pub One : ℕ → Type 0
One s = size_of s ≡ 1

-- all poses of a feeder
abbrev pub every : Motion → ℕ
every m = 2 ^ m.poses - 1

-- The pair p < q of s is at distance d, and it is the pair of least distance: on a tie the one with the lower p, then the lower q.
-- Pairs without a distance do not count.
pub record Nearest (m : Motion) (perm s p q d : ℕ) : Type 0 where
  pub ordered : p < q
  pub lesser : T (has s p)
  pub greater : T (has s q)
  pub away : Distance (pair_graph m) perm (pair_node p q) d
  pub first : (p₁ q₁ d₁ : ℕ) → p₁ < q₁ → T (has s p₁) → T (has s q₁) → Distance (pair_graph m) perm (pair_node p₁ q₁) d₁ → (d < d₁) ⊎ ((d ≡ d₁) × ((p < p₁) ⊎ ((p ≡ p₁) × (q ≤ q₁))))

-- The plan that the pair rule gives from s with the permitted actions: while the set has two poses or more,
-- the way of its nearest pair is appended, and the whole set is brought along it.
pub data PairRule (m : Motion) (perm : ℕ) : ℕ → List ℕ → Type 0 where
  met : {s : ℕ} → One s → PairRule m perm s []
  bring : {s p q d : ℕ} {w rest : List ℕ} → Nearest m perm s p q d → Way (pair_graph m) perm (pair_node p q) w → PairRule m perm (image m s w) rest → PairRule m perm s (w ++ rest)

-- The pair rule gets stuck: it comes to a set of two poses or more none of whose pairs has a distance.
pub data Stuck (m : Motion) (perm : ℕ) : ℕ → Type 0 where
  apart : {s : ℕ} → 2 ≤ size_of s → ((p q : ℕ) → p < q → T (has s p) → T (has s q) → NoDistance (pair_graph m) perm (pair_node p q)) → Stuck m perm s
  after : {s p q d : ℕ} {w : List ℕ} → Nearest m perm s p q d → Way (pair_graph m) perm (pair_node p q) w → Stuck m perm (image m s w) → Stuck m perm s

-- a list of permitted actions that brings all poses of s to one
abbrev pub Orients : Motion → ℕ → ℕ → List ℕ → Type 0
Orients m perm s w = AllUsable (pair_graph m) perm w × One (image m s w)

-- What the pair rule is good for, over every feeder and every set of permitted actions.
pub record PairLaws (m : Motion) (perm : ℕ) : Type 0 where
  -- it gives one plan at most, and a plan only where it does not get stuck
  pub one_plan : (s : ℕ) (v w : List ℕ) → s < 2 ^ m.poses → PairRule m perm s v → PairRule m perm s w → v ≡ w
  pub not_both : (s : ℕ) (w : List ℕ) → s < 2 ^ m.poses → PairRule m perm s w → Stuck m perm s → ⊥
  -- its plan orients the set
  pub orients : (s : ℕ) (w : List ℕ) → s < 2 ^ m.poses → PairRule m perm s w → Orients m perm s w
  -- short: from a set of so many poses of n it has at most (so many - 1) × n (n - 1) / 2 actions
  pub short : (s : ℕ) (w : List ℕ) → s < 2 ^ m.poses → PairRule m perm s w → length w ≤ (size_of s - 1) * start m.poses
  -- complete: where some list orients all poses, it never gets stuck
  pub complete : (w : List ℕ) → Orients m perm (every m) w → (s : ℕ) → s < 2 ^ m.poses → Stuck m perm s → ⊥
  -- exact: on the image of all poses under permitted actions it gets stuck only where no list of any length orients that image
  pub exact : (u : List ℕ) → AllUsable (pair_graph m) perm u → Stuck m perm (image m (every m) u) → (w : List ℕ) → Orients m perm (image m (every m) u) w → ⊥
