-- What comes of a call that appends the way from one pose to another.
use Rattle.std.specs.Prelude.{◌≡◌, ℕ, ◌+◌, ◌<◌, ◌≤◌, ◌⊎◌, List, ◌++◌, length, Ok, Err, Result}
use Rattle.refusals.specs.declared.Refusal.{Refusal}
use Rattle.refusals.specs.declared.Refusal.TheVariants.{NoPose, PlanTooLong, CannotEndThere}
use Rattle.feeders.specs.Motion.{Motion}
use Rattle.graphs.specs.Distance.{NoDistance, Way}
use Rattle.graphs.specs.Poses.{pose_graph}
use Rattle.plans.specs.Held.{list_of}
use Rattle.plans.specs.declared.plan.Plan.{Plan}

-- Why no way is appended to the list `held`: a pose is absent; or no permitted actions bring `from` to `goal`; or there is no room for the way.
pub data AimRefused (m : Motion) (perm from goal : ℕ) (held : List ℕ) : Refusal → Type 0 where
  no_pose : (m.poses ≤ goal) ⊎ (m.poses ≤ from) → AimRefused m perm from goal held NoPose
  never : goal < m.poses → from < m.poses → NoDistance (pose_graph m goal) perm from → AimRefused m perm from goal held CannotEndThere
  too_long : {w : List ℕ} → goal < m.poses → from < m.poses → Way (pose_graph m goal) perm from w → 16384 < length held + length w → AimRefused m perm from goal held PlanTooLong

-- The way from `from` to `goal` is appended; or the call is refused, and the plan is as it was.
abbrev pub Aimed : {U : Type 0} → Motion → ℕ → ℕ → ℕ → Plan → Plan → Result U Refusal → Type 0
Aimed m perm from goal before after (Ok u) = (goal < m.poses) × (from < m.poses) × ((w : List ℕ) × Way (pose_graph m goal) perm from w × (list_of after ≡ list_of before ++ w))
Aimed m perm from goal before after (Err e) = AimRefused m perm from goal (list_of before) e × (after ≡ before)
