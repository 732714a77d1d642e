-- The rules of the calls: what each answers, and which plan it leaves. A plan is a list of actions, or none is held.
use Rattle.std.specs.Prelude.{◌≡◌, ℕ, ◌+◌, ◌^◌, ◌<◌, ◌≤◌, cond, T, List, [], ◌∷◌, ◌++◌, length, take, drop, Some, None, Ok, Err, Option, Result, ◌==◌}
use Rattle.std.specs.Borrow.{Bor}
use Rattle.refusals.specs.declared.Refusal.{Refusal}
use Rattle.refusals.specs.declared.Refusal.TheVariants.{NoPose, NoAction, Barred, NoPlan, NoPlace, PlanTooLong, Apart, CannotOrient, CannotEndThere}
use Rattle.feeders.specs.Motion.{Motion}
use Rattle.feeders.specs.Image.{image}
use Rattle.graphs.specs.Distance.{NoDistance, Way}
use Rattle.graphs.specs.PairRule.{One, PairRule, Stuck}
use Rattle.graphs.specs.Poses.{pose_graph}
use Rattle.histories.specs.History.{barred, permits, permitted, possible, Permitted, Orients}
use Rattle.histories.specs.declared.call.Call.{Call}
use Rattle.histories.specs.declared.call.Call.TheVariants.{Bar, Allow, Shake, Step, Plan, Put, Add, Cut, Aim}

abbrev pub Plans : Type 0
Plans = Option (List ℕ)

-- the plan's length, or that none is held; or why the call is refused
abbrev pub Answer : Type 0
Answer = Result (Option ℕ) Refusal

abbrev pub length_of : Plans → Option ℕ
length_of None = None
length_of (Some w) = Some (length w)

-- what a step leaves of a plan: a plan that begins with the action loses it, and any other is gone
abbrev pub advanced : Plans → ℕ → Plans
advanced None a = None
advanced (Some []) a = None
advanced (Some (b ∷ w)) a = cond (b == a) (Some w) None

-- the list without the action at place n, counted from 0
abbrev pub without : List ℕ → ℕ → List ℕ
without w n = take n w ++ drop (n + 1) w

-- why the list has an action that is not permitted: the first such action says it
pub data Bad (m : Motion) (h : List Call) : List ℕ → Refusal → Type 0 where
  absent : {a : ℕ} {w : List ℕ} → m.actions ≤ a → Bad m h (a ∷ w) NoAction
  forbidden : {a : ℕ} {w : List ℕ} → a < m.actions → T (barred h a) → Bad m h (a ∷ w) Barred
  later : {a : ℕ} {w : List ℕ} {e : Refusal} → T (permits m h a) → Bad m h w e → Bad m h (a ∷ w) e

-- What a call made after the history h, with the plan `before`, answers, and the plan that it leaves. A refused call leaves the plan as it was.
-- A plan has at most 16,384 actions.
pub data Rule (m : Motion) (h : List Call) (before : Plans) : Call → Plans → Answer → Type 0 where
  bar_no_action : {a : ℕ} → m.actions ≤ a → Rule m h before (Bar a) before (Err NoAction)
  bar_done : {a : ℕ} → a < m.actions → Rule m h before (Bar a) None (Ok None)
  allow_no_action : {a : ℕ} → m.actions ≤ a → Rule m h before (Allow a) before (Err NoAction)
  allow_done : {a : ℕ} → a < m.actions → Rule m h before (Allow a) None (Ok None)
  shake_done : Rule m h before Shake None (Ok None)
  step_no_action : {a : ℕ} → m.actions ≤ a → Rule m h before (Step a) before (Err NoAction)
  step_barred : {a : ℕ} → a < m.actions → T (barred h a) → Rule m h before (Step a) before (Err Barred)
  step_done : {a : ℕ} → T (permits m h a) → Rule m h before (Step a) (advanced before a) (Ok (length_of (advanced before a)))
  plan_stuck : Stuck m (permitted m h) (possible m h) → Rule m h before Plan before (Err CannotOrient)
  plan_done : {w : List ℕ} → PairRule m (permitted m h) (possible m h) w → Rule m h before Plan (Some w) (Ok (Some (length w)))
  put_too_long : {b : Bor (List ℕ)} → 16384 < length b.now → Rule m h before (Put b) before (Err PlanTooLong)
  put_bad : {b : Bor (List ℕ)} {e : Refusal} → length b.now ≤ 16384 → Bad m h b.now e → Rule m h before (Put b) before (Err e)
  put_apart : {b : Bor (List ℕ)} → length b.now ≤ 16384 → Permitted m h b.now → (One (image m (possible m h) b.now) → ⊥) → Rule m h before (Put b) before (Err Apart)
  put_done : {b : Bor (List ℕ)} → length b.now ≤ 16384 → Orients m h b.now → Rule m h before (Put b) (Some b.now) (Ok (Some (length b.now)))
  add_no_plan : {a : ℕ} → before ≡ None → Rule m h before (Add a) before (Err NoPlan)
  add_no_action : {a : ℕ} {w : List ℕ} → before ≡ Some w → m.actions ≤ a → Rule m h before (Add a) before (Err NoAction)
  add_barred : {a : ℕ} {w : List ℕ} → before ≡ Some w → a < m.actions → T (barred h a) → Rule m h before (Add a) before (Err Barred)
  add_too_long : {a : ℕ} {w : List ℕ} → before ≡ Some w → T (permits m h a) → 16384 ≤ length w → Rule m h before (Add a) before (Err PlanTooLong)
  add_done : {a : ℕ} {w : List ℕ} → before ≡ Some w → T (permits m h a) → length w < 16384 → Rule m h before (Add a) (Some (w ++ (a ∷ []))) (Ok (Some (length (w ++ (a ∷ [])))))
  cut_no_plan : {n : ℕ} → before ≡ None → Rule m h before (Cut n) before (Err NoPlan)
  cut_no_place : {n : ℕ} {w : List ℕ} → before ≡ Some w → length w ≤ n → Rule m h before (Cut n) before (Err NoPlace)
  cut_apart : {n : ℕ} {w : List ℕ} → before ≡ Some w → n < length w → (One (image m (possible m h) (without w n)) → ⊥) → Rule m h before (Cut n) before (Err Apart)
  cut_done : {n : ℕ} {w : List ℕ} → before ≡ Some w → n < length w → One (image m (possible m h) (without w n)) → Rule m h before (Cut n) (Some (without w n)) (Ok (Some (length (without w n))))
  aim_no_plan : {q : ℕ} → before ≡ None → Rule m h before (Aim q) before (Err NoPlan)
  aim_no_pose : {q : ℕ} {w : List ℕ} → before ≡ Some w → m.poses ≤ q → Rule m h before (Aim q) before (Err NoPose)
  -- e is the plan's end pose, and u the way from there
  aim_never : {q : ℕ} (e : ℕ) {w : List ℕ} → before ≡ Some w → q < m.poses → image m (possible m h) w ≡ 2 ^ e → NoDistance (pose_graph m q) (permitted m h) e → Rule m h before (Aim q) before (Err CannotEndThere)
  aim_too_long : {q : ℕ} (e : ℕ) {w u : List ℕ} → before ≡ Some w → q < m.poses → image m (possible m h) w ≡ 2 ^ e → Way (pose_graph m q) (permitted m h) e u → 16384 < length w + length u → Rule m h before (Aim q) before (Err PlanTooLong)
  aim_done : {q : ℕ} (e : ℕ) {w u : List ℕ} → before ≡ Some w → q < m.poses → image m (possible m h) w ≡ 2 ^ e → Way (pose_graph m q) (permitted m h) e u → length w + length u ≤ 16384 → Rule m h before (Aim q) (Some (w ++ u)) (Ok (Some (length (w ++ u))))

-- the plan that the rules make of the calls
pub data Held (m : Motion) : List Call → Plans → Type 0 where
  start : Held m [] None
  call : {h : List Call} {before after : Plans} {c : Call} {r : Answer} → Held m h before → Rule m h before c after r → Held m (c ∷ h) after
