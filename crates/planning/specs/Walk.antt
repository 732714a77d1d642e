-- What is known of a plan while a way is appended to it.
use Rattle.std.specs.Prelude.{◌≡◌, ℕ, ◌+◌, ◌<◌, ◌≤◌, List, ◌++◌, length}
use Rattle.graphs.specs.Graph.{Graph}
use Rattle.graphs.specs.Distance.{Distance, Way}

-- node v has a distance, and a plan that holds the list `before` has room for the way from v
pub record Fits (g : Graph) (s v : ℕ) (before : List ℕ) : Type 0 where
  pub inside : v < g.nodes
  pub left : ℕ
  pub away : Distance g s v left
  pub room : length before + left ≤ 16384

-- the list `after` is the list `before` and then the way from v
pub record Extends (g : Graph) (s v : ℕ) (before after : List ℕ) : Type 0 where
  pub way : List ℕ
  pub is : Way g s v way
  pub joined : after ≡ before ++ way

-- The part of the way from v to u is appended, and the rest of it is the way from u.
pub record Walking (g : Graph) (s v u : ℕ) (before after : List ℕ) : Type 0 where
  pub fits : Fits g s u after
  pub part : List ℕ
  pub joined : after ≡ before ++ part
  pub rest : (w : List ℕ) → Way g s u w → Way g s v (part ++ w)
