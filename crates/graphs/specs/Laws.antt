-- What every ground keeps of its distances and ways, under every set of permitted labels.
use Rattle.std.specs.Prelude.{◌≡◌, ℕ, ◌<◌, List, length}
use Rattle.graphs.specs.Graph.{Graph, Sound}
use Rattle.graphs.specs.Distance.{Distance, NoDistance, Leads, First, Way}

pub record DistanceLaws : Type 0 where
  -- a node has one distance at most, and not both one and none
  pub one_distance : (g : Graph) (s v d e : ℕ) → Sound g → v < g.nodes → Distance g s v d → Distance g s v e → d ≡ e
  pub not_both : (g : Graph) (s v d : ℕ) → Sound g → v < g.nodes → Distance g s v d → NoDistance g s v → ⊥
  -- every distance is below the number of nodes
  pub below : (g : Graph) (s v d : ℕ) → Sound g → v < g.nodes → Distance g s v d → d < g.nodes
  -- one label at most is the first
  pub one_first : (g : Graph) (s v d a b : ℕ) → Sound g → v < g.nodes → First g s v d a → First g s v d b → a ≡ b
  -- a node has one way at most
  pub one_way : (g : Graph) (s v : ℕ) (w x : List ℕ) → Sound g → v < g.nodes → Way g s v w → Way g s v x → w ≡ x
  -- a way leads to a goal, and its length is the distance: no list that leads to a goal is shorter
  pub leads : (g : Graph) (s v : ℕ) (w : List ℕ) → Sound g → v < g.nodes → Way g s v w → Leads g s v w
  pub shortest : (g : Graph) (s v : ℕ) (w : List ℕ) → Sound g → v < g.nodes → Way g s v w → Distance g s v (length w)
