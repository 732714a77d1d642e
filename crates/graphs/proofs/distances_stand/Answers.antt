-- The laws are the lemmas on distances.
use Rattle.graphs.proofs.Distances.{distance_unique, distance_not-none, first_unique, way_unique, way_leads, way_distance}
use Rattle.graphs.proofs.Bounds.{distance_below}
use Rattle.graphs.proofs.distances_stand.Goals as goal

pub returns : goal.returns
returns c = record {
  one_distance = λ g s v d e _ _. distance_unique g s v d e;
  not_both = λ g s v d _ _. distance_not-none g s v d;
  below = distance_below;
  one_first = λ g s v d a b _ _. first_unique g s v d a b;
  one_way = λ g s v w x _ _. way_unique g s v w x;
  leads = λ g s v w _ _. way_leads g s v w;
  shortest = λ g s v w _ _. way_distance g s v w;
}
