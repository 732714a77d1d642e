-- What a plan record tells of a plan, and the limits of it.
use Rattle.std.specs.Prelude.{ℕ, ◌≤◌, Bool, ◌&&◌, T, List, length, nat_lt}
use Rattle.feeders.specs.Sets.{all_below}
use Rattle.numbers.specs.Grammar.{within}

-- how many poses and actions the feeder has, the end pose, and the actions of the plan
pub record Contents : Type 0 where
  pub poses : ℕ
  pub actions : ℕ
  pub end : ℕ
  pub list : List ℕ

abbrev pub plan_with : ℕ → ℕ → ℕ → List ℕ → Contents
plan_with n k e w = record { poses = n; actions = k; end = e; list = w }

-- 1 to 32 poses, 1 to 32 actions, the end pose is one of the poses, and the plan has only actions that there are
abbrev pub fits : Contents → Bool
fits c = within 1 32 c.poses && (within 1 32 c.actions && (nat_lt c.end c.poses && all_below c.actions c.list))

-- The rule of a record: these limits, and at most 16,384 actions.
pub record Keeps (c : Contents) : Type 0 where
  pub inside : T (fits c)
  pub short : length c.list ≤ 16384
