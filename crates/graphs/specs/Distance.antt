-- Distances and ways on a ground, under a set s of permitted labels.
use Rattle.std.specs.Prelude.{◌≡◌, ℕ, suc, ◌<◌, ◌≤◌, T, List, [], ◌∷◌, length}
use Rattle.feeders.specs.Sets.{has}
use Rattle.graphs.specs.Graph.{Graph, walk}

-- the ground has the label, and the set permits it
abbrev pub Usable : Graph → ℕ → ℕ → Type 0
Usable g s a = (a < g.labels) × T (has s a)

-- every label of the list is usable
abbrev pub AllUsable : Graph → ℕ → List ℕ → Type 0
AllUsable g s [] = Unit {0}
AllUsable g s (a ∷ w) = Usable g s a × AllUsable g s w

-- the list leads from v to a goal, by usable labels only
abbrev pub Leads : Graph → ℕ → ℕ → List ℕ → Type 0
Leads g s v w = AllUsable g s w × T (g.goal (walk g v w))

-- d is the least number of usable labels that lead from v to a goal
pub record Distance (g : Graph) (s v d : ℕ) : Type 0 where
  pub some : (w : List ℕ) × Leads g s v w × (length w ≡ d)
  pub least : (w : List ℕ) → Leads g s v w → d ≤ length w

-- no list of usable labels, of any length, leads from v to a goal
abbrev pub NoDistance : Graph → ℕ → ℕ → Type 0
NoDistance g s v = (w : List ℕ) → Leads g s v w → ⊥

-- a is the lowest usable label from v to a node at distance d
pub record First (g : Graph) (s v d a : ℕ) : Type 0 where
  pub usable : Usable g s a
  pub nearer : Distance g s (g.next v a) d
  pub lowest : (b : ℕ) → Usable g s b → Distance g s (g.next v b) d → a ≤ b

-- The way from v: at each node the lowest usable label whose next node is one nearer, up to a goal.
pub data Way (g : Graph) (s : ℕ) : ℕ → List ℕ → Type 0 where
  there : {v : ℕ} → T (g.goal v) → Way g s v []
  onward : {v d a : ℕ} {w : List ℕ} → Distance g s v (suc d) → First g s v d a → Way g s (g.next v a) w → Way g s v (a ∷ w)
