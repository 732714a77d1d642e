-- What the planner keeps from round to round.
use Rattle.std.specs.Prelude.{ℕ, ◌+◌, ◌*◌, ◌^◌, ◌<◌, ◌≤◌, List, ◌++◌, length}
use Rattle.feeders.specs.Motion.{Motion}
use Rattle.graphs.specs.Pairs.{start}
use Rattle.graphs.specs.PairRule.{size_of, PairRule, Stuck}

-- how many poses a set has; shut, since `omega` would compute it without end
unfoldable pub size : ℕ → ℕ
size s = size_of s

-- The list made so far brings the set s to `here`, and it goes on from there as the pair rule does from s.
pub record Round (m : Motion) (perm s here : ℕ) (made : List ℕ) : Type 0 where
  pub inside : here < 2 ^ m.poses
  pub some : 1 ≤ size here
  pub onward : (rest : List ℕ) → PairRule m perm here rest → PairRule m perm s (made ++ rest)
  pub stuck : Stuck m perm here → Stuck m perm s
  -- every pose that was taken away has paid for its actions
  pub short : length made + size here * start m.poses ≤ size s * start m.poses
