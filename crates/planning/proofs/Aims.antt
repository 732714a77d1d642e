-- The way of a node that has a distance.
use Rattle.std.proofs.Common.{◌≡◌, ℕ, ◌<◌, List, length}
use Rattle.graphs.specs.Graph.{Graph, Sound}
use Rattle.graphs.specs.Distance.{Distance, Way}
use Rattle.graphs.specs.Certificate.{Passes}
use Rattle.graphs.proofs.Certificates.{told-Distance, passes_none, passes_way}
use Rattle.graphs.proofs.Distances.{distance_not-none, way_length}

pub way_there : (g : Graph) (s : ℕ) (table : List ℕ) (v d : ℕ) → Sound g → Passes g s table → v < g.nodes → Distance g s v d → (w : List ℕ) × Way g s v w × (length w ≡ d)
way_there g s table v d h p l q =
    let w = passes_way g s table d v h p l (λ e. distance_not-none g s v d q (passes_none g s table v h p l e)) (told-Distance g s table v d h p l q) in
    (w.0, w.1, way_length g s v d w.0 w.1 q)
