-- A plan record: 4, the number of poses n, the number of actions k, the end pose, the actions, and 32 at the end; a byte each.
use Rattle.std.specs.Prelude.{ℕ, List, [], ◌∷◌, ◌++◌}
use Rattle.records.specs.Contents.{Contents}

-- How a plan is spelled.
abbrev pub spell : Contents → List ℕ
spell c = 4 ∷ (c.poses ∷ (c.actions ∷ (c.end ∷ (c.list ++ (32 ∷ [])))))
