-- What the planner answers and leaves.
use Rattle.std.specs.Prelude.{◌≡◌, ℕ, ◌^◌, ◌<◌, ◌≤◌, ◌⊎◌, ◌↔◌, List, Ok, Err, Result}
use Rattle.refusals.specs.declared.Refusal.{Refusal}
use Rattle.refusals.specs.declared.Refusal.TheVariants.{NoPose, CannotOrient}
use Rattle.feeders.specs.Motion.{Motion}
use Rattle.feeders.specs.Image.{image}
use Rattle.graphs.specs.Distance.{AllUsable}
use Rattle.graphs.specs.Pairs.{pair_graph}
use Rattle.graphs.specs.PairRule.{PairRule, Stuck, Orients, every}
use Rattle.plans.specs.Held.{list_of}
use Rattle.plans.specs.declared.plan.Plan.{Plan}

-- Why no plan is made from the set s: it has a pose that the feeder does not have; or the pair rule gets stuck, or there is no pose to orient.
abbrev pub Refused : Motion → ℕ → ℕ → Refusal → Type 0
Refused m perm s e = ((2 ^ m.poses ≤ s) × (e ≡ NoPose)) ⊎ ((s < 2 ^ m.poses) × (e ≡ CannotOrient) × (Stuck m perm s ⊎ (s ≡ 0)))

-- The plan becomes the one that the pair rule gives from s; or the call is refused, and the plan is as it was.
abbrev pub Planned : {U : Type 0} → Motion → ℕ → ℕ → Plan → Plan → Result U Refusal → Type 0
Planned m perm s before after (Ok u) = (s < 2 ^ m.poses) × PairRule m perm s (list_of after)
Planned m perm s before after (Err e) = Refused m perm s e × (after ≡ before)

-- Where s is the image of all poses under permitted actions, "cannot be oriented" is answered exactly when no list of permitted
-- actions, of any length, brings s to one pose. It is false of other sets: see docs/DECISIONS.md.
abbrev pub Exact : {U : Type 0} → Motion → ℕ → ℕ → Result U Refusal → Type 0
Exact m perm s r = (u : List ℕ) → AllUsable (pair_graph m) perm u → s ≡ image m (every m) u → (r ≡ Err CannotOrient) ↔ ((w : List ℕ) → Orients m perm s w → ⊥)
