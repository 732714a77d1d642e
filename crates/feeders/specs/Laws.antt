-- The laws of image, on which all planning rests.
use Rattle.std.specs.Prelude.{◌≡◌, ℕ, ◌^◌, ◌<◌, T, ◌↔◌, List, [], ◌++◌}
use Rattle.feeders.specs.Motion.{Motion, brings}
use Rattle.feeders.specs.Sets.{has, all_below}
use Rattle.feeders.specs.Image.{image}

pub record ImageLaws (m : Motion) : Type 0 where
  -- q is in the image exactly when some pose of the set is brought to q
  pub members : (s : ℕ) (w : List ℕ) (q : ℕ) → T (has (image m s w) q) ↔ ((p : ℕ) × (p < m.poses) × T (has s p) × (brings m p w ≡ q))
  -- an image is a set of poses again
  pub stays : (s : ℕ) (w : List ℕ) → T (all_below m.actions w) → image m s w < 2 ^ m.poses
  -- the empty list leaves a set as it is
  pub empty : (s : ℕ) → s < 2 ^ m.poses → image m s [] ≡ s
  -- two lists one after the other act like the joined list
  pub joined : (s : ℕ) (v w : List ℕ) → T (all_below m.actions v) → image m s (v ++ w) ≡ image m (image m s v) w
