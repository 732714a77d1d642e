-- The guarantee: no held plan leaves doubt, and no refusal is false.
use Rattle.std.specs.Prelude.{◌≡◌, ℕ, ◌+◌, ◌-◌, ◌*◌, ◌/◌, ◌<◌, ◌≤◌, ◌↔◌, List, ◌∷◌, length, Some, Ok, Err, Option}
use Rattle.refusals.specs.declared.Refusal.{Refusal}
use Rattle.refusals.specs.declared.Refusal.TheVariants.{CannotOrient, CannotEndThere}
use Rattle.feeders.specs.Motion.{Motion, Valid}
use Rattle.graphs.specs.PairRule.{size_of}
use Rattle.histories.specs.History.{permitted, possible, Orients, EndsAt}
use Rattle.histories.specs.Rules.{Plans, Answer, length_of, Rule, Held}
use Rattle.histories.specs.declared.call.Call.{Call}
use Rattle.histories.specs.declared.call.Call.TheVariants.{Plan, Aim}

-- Of the call c, made after the history h with the plan `before`, which leaves the plan `after` and answers r.
pub record Sure (m : Motion) (h : List Call) (c : Call) (before after : Plans) (r : Answer) : Type 0 where
  -- a plan that is held has permitted actions only, and brings all possible poses to one
  pub sure : (w : List ℕ) → after ≡ Some w → Orients m (c ∷ h) w
  -- plan answers "cannot be oriented" exactly when no list of permitted actions, of any length, brings all possible poses to one
  pub oriented : c ≡ Plan → (r ≡ Err CannotOrient) ↔ ((w : List ℕ) → Orients m h w → ⊥)
  -- with a plan held, aim at an existing pose answers "cannot end there" exactly when no such list brings them to that pose
  pub ended : (q : ℕ) (held : List ℕ) → c ≡ Aim q → q < m.poses → before ≡ Some held → (r ≡ Err CannotEndThere) ↔ ((w : List ℕ) → EndsAt m h q w → ⊥)
  -- an accepted plan call gives at most (so many possible poses - 1) × n × (n - 1) / 2 actions, and an accepted aim adds at most n - 1
  pub plan_short : (l : ℕ) → c ≡ Plan → r ≡ Ok (Some l) → l ≤ (size_of (possible m h) - 1) * m.poses * (m.poses - 1) / 2
  pub aim_short : (q l : ℕ) (held : List ℕ) → c ≡ Aim q → before ≡ Some held → r ≡ Ok (Some l) → l ≤ length held + (m.poses - 1)
  -- an accepted aim ends in that pose
  pub aimed : (q : ℕ) (l : Option ℕ) (w : List ℕ) → c ≡ Aim q → r ≡ Ok l → after ≡ Some w → EndsAt m h q w
  -- an accepted call answers the length of the plan that is held after it, or that none is
  pub told : (l : Option ℕ) → r ≡ Ok l → l ≡ length_of after
  -- a refused call changes nothing
  pub kept : (e : Refusal) → r ≡ Err e → (after ≡ before) × (permitted m (c ∷ h) ≡ permitted m h) × (possible m (c ∷ h) ≡ possible m h)

-- The guarantee follows from the rules, over every feeder and every history.
abbrev pub RulesAreSure : Type 0
RulesAreSure = (m : Motion) → Valid m → (h : List Call) (c : Call) (before after : Plans) (r : Answer) → Held m h before → Rule m h before c after r → Sure m h c before after r

-- The calls determine the plan that is held, and what the next call answers and leaves.
pub record Determined : Type 0 where
  pub one_answer : (m : Motion) → Valid m → (h : List Call) (c : Call) (before x y : Plans) (r s : Answer) → Rule m h before c x r → Rule m h before c y s → (x ≡ y) × (r ≡ s)
  pub one_plan : (m : Motion) → Valid m → (h : List Call) (x y : Plans) → Held m h x → Held m h y → x ≡ y
