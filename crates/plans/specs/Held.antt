-- What a plan in memory holds.
use Rattle.std.specs.Prelude.{ℕ, List}
use Rattle.lists.specs.Held.{list_of as items_of}
use Rattle.plans.specs.declared.plan.Plan.{Plan}

abbrev pub list_of : Plan → List ℕ
list_of p = items_of p.actions
