-- The guarantee, from the rules alone.
use Rattle.std.proofs.Common.{◌≡◌, ℕ, ◌+◌, ◌-◌, ◌*◌, ◌/◌, ◌<◌, ◌≤◌, true, false, T, ◌↔◌, List, [], ◌∷◌, ◌++◌, length, Some, None, Ok, Err, Option, sym, refl, ap, ◌∙◌, subst, arith, length-append}
use Rattle.std.proofs.lemmas.Option.{none-some, same_Some}
use Rattle.refusals.specs.declared.Refusal.{Refusal}
use Rattle.refusals.specs.declared.Refusal.TheVariants.{NoPose, NoPlan, PlanTooLong, CannotOrient, CannotEndThere}
use Rattle.feeders.specs.Motion.{Motion, Valid}
use Rattle.feeders.specs.Image.{image}
use Rattle.graphs.specs.PairRule.{One, size_of}
use Rattle.histories.specs.History.{barred, permits, possible, permitted, Orients, EndsAt}
use Rattle.histories.specs.Rules.{Plans, Answer, length_of, advanced, without, Rule, Held, bar_no_action, bar_done, allow_no_action, allow_done, shake_done, step_no_action, step_barred, step_done, plan_stuck, plan_done, put_too_long, put_bad, put_apart, put_done, add_no_plan, add_no_action, add_barred, add_too_long, add_done, cut_no_plan, cut_no_place, cut_apart, cut_done, aim_no_plan, aim_no_pose, aim_never, aim_too_long, aim_done, start, call}
use Rattle.histories.specs.Promise.{RulesAreSure}
use Rattle.histories.specs.declared.call.Call.{Call}
use Rattle.histories.specs.declared.call.Call.TheVariants.{Bar, Allow, Step, Plan, Put, Add, Cut, Aim}
use Rattle.histories.proofs.Words.{not_absent, permits-free, permitted_all_like, permitted_same, elsewhere, possible_still, possible_elsewhere}
use Rattle.histories.proofs.Orienting.{advanced_was, one_of_bit, orients_more, orients_step, permitted-without, planned_orients, stuck_orients_none, planned_short, way_ends, way_short, never_ends}

-- ---- answers

ok_err : (l : Option ℕ) (e : Refusal) → ◌≡◌ {A = Answer} (Ok l) (Err e) → ⊥
ok_err l e p = cc

same_ok : (k l : Option ℕ) → ◌≡◌ {A = Answer} (Ok k) (Ok l) → k ≡ l
same_ok k l p = cc

same_length : (k l : ℕ) → ◌≡◌ {A = Answer} (Ok (Some k)) (Ok (Some l)) → k ≡ l
same_length k l p = cc

-- ---- what a refused call leaves

-- the words that a refused call must leave as they were
abbrev Still : Motion → List Call → Call → Type 0
Still m h c = (permitted m (c ∷ h) ≡ permitted m h) × (possible m (c ∷ h) ≡ possible m h)

module _ (m : Motion) (ok : Valid m) (h : List Call) where
  still_bar : (a : ℕ) → m.actions ≤ a → Still m h (Bar a)
  still_bar a g = (permitted_same m (Bar a ∷ h) h (elsewhere m h a true g), possible_elsewhere m ok h a g)

  still_allow : (a : ℕ) → m.actions ≤ a → Still m h (Allow a)
  still_allow a g = (permitted_same m (Allow a ∷ h) h (elsewhere m h a false g), possible_elsewhere m ok h a g)

  still_step : (a : ℕ) → (T (permits m h a) → ⊥) → Still m h (Step a)
  still_step a n = (permitted_same m (Step a ∷ h) h (λ b l. refl), possible_still m ok h a n)

  barred-not : (a : ℕ) → T (barred h a) → T (permits m h a) → ⊥
  barred-not a b t = permits-free m h a t b

  -- a list that orients after h orients after a call that leaves all as it was
  orients_still : (c : Call) (w : List ℕ) → ((b : ℕ) → b < m.actions → barred h b ≡ barred (c ∷ h) b) → possible m (c ∷ h) ≡ possible m h → Orients m h w → Orients m (c ∷ h) w
  orients_still c w same still o = (permitted_all_like m h (c ∷ h) same w o.0, subst (λ (s : ℕ). One (image m s w)) (sym still) o.1)

  ends_orients : (q : ℕ) (w : List ℕ) → q < m.poses → EndsAt m h q w → Orients m h w
  ends_orients q w l e = (e.0, subst One (sym e.1) (one_of_bit m ok q l))

-- ---- a held plan orients

module _ (m : Motion) (ok : Valid m) where
  pub rule_orients : {h : List Call} {before after : Plans} {c : Call} {r : Answer} → ((w : List ℕ) → before ≡ Some w → Orients m h w) → Rule m h before c after r → (w : List ℕ) → after ≡ Some w → Orients m (c ∷ h) w
  rule_orients {h} ih (bar_no_action {a} g) w e = orients_still m ok h (Bar a) w (λ b l. sym (elsewhere m h a true g b l)) (still_bar m ok h a g).1 (ih w e)
  rule_orients ih (bar_done l) w e = absurd (none-some w e)
  rule_orients {h} ih (allow_no_action {a} g) w e = orients_still m ok h (Allow a) w (λ b l. sym (elsewhere m h a false g b l)) (still_allow m ok h a g).1 (ih w e)
  rule_orients ih (allow_done l) w e = absurd (none-some w e)
  rule_orients ih shake_done w e = absurd (none-some w e)
  rule_orients {h} ih (step_no_action {a} g) w e = orients_still m ok h (Step a) w (λ b l. refl) (still_step m ok h a (not_absent m h a g)).1 (ih w e)
  rule_orients {h} ih (step_barred {a} l b) w e = orients_still m ok h (Step a) w (λ b l. refl) (still_step m ok h a (barred-not m ok h a b)).1 (ih w e)
  rule_orients {h} {before} ih (step_done {a} t) w e = orients_step m ok h a w t (ih (a ∷ w) (advanced_was before a w e))
  rule_orients {h} ih (plan_stuck s) w e = orients_still m ok h Plan w (λ b l. refl) refl (ih w e)
  rule_orients {h} ih (plan_done {w = v} r) w e = orients_still m ok h Plan w (λ b l. refl) refl (subst (Orients m h) (same_Some v w e) (planned_orients m ok h v r))
  rule_orients {h} ih (put_too_long {b} l) w e = orients_still m ok h (Put b) w (λ b l. refl) refl (ih w e)
  rule_orients {h} ih (put_bad {b} l x) w e = orients_still m ok h (Put b) w (λ b l. refl) refl (ih w e)
  rule_orients {h} ih (put_apart {b} l p n) w e = orients_still m ok h (Put b) w (λ b l. refl) refl (ih w e)
  rule_orients {h} ih (put_done {b} l o) w e = orients_still m ok h (Put b) w (λ b l. refl) refl (subst (Orients m h) (same_Some b.now w e) o)
  rule_orients {h} ih (add_no_plan {a} n) w e = orients_still m ok h (Add a) w (λ b l. refl) refl (ih w e)
  rule_orients {h} ih (add_no_action {a} s g) w e = orients_still m ok h (Add a) w (λ b l. refl) refl (ih w e)
  rule_orients {h} ih (add_barred {a} s l b) w e = orients_still m ok h (Add a) w (λ b l. refl) refl (ih w e)
  rule_orients {h} ih (add_too_long {a} s t l) w e = orients_still m ok h (Add a) w (λ b l. refl) refl (ih w e)
  rule_orients {h} ih (add_done {a} {w = v} s t l) w e =
      orients_still m ok h (Add a) w (λ b l. refl) refl (subst (Orients m h) (same_Some (v ++ (a ∷ [])) w e) (orients_more m ok h v (a ∷ []) (ih v s) (t, tt)))
  rule_orients {h} ih (cut_no_plan {n} z) w e = orients_still m ok h (Cut n) w (λ b l. refl) refl (ih w e)
  rule_orients {h} ih (cut_no_place {n} s l) w e = orients_still m ok h (Cut n) w (λ b l. refl) refl (ih w e)
  rule_orients {h} ih (cut_apart {n} s l x) w e = orients_still m ok h (Cut n) w (λ b l. refl) refl (ih w e)
  rule_orients {h} ih (cut_done {n} {w = v} s l o) w e =
      orients_still m ok h (Cut n) w (λ b l. refl) refl (subst (Orients m h) (same_Some (without v n) w e) (permitted-without m ok h v n l (ih v s).0, o))
  rule_orients {h} ih (aim_no_plan {q} z) w e = orients_still m ok h (Aim q) w (λ b l. refl) refl (ih w e)
  rule_orients {h} ih (aim_no_pose {q} s g) w e = orients_still m ok h (Aim q) w (λ b l. refl) refl (ih w e)
  rule_orients {h} ih (aim_never {q} x s l i n) w e = orients_still m ok h (Aim q) w (λ b l. refl) refl (ih w e)
  rule_orients {h} ih (aim_too_long {q} x s l i y z) w e = orients_still m ok h (Aim q) w (λ b l. refl) refl (ih w e)
  rule_orients {h} ih (aim_done {q} x {w = v} {u} s l i y z) w e =
      orients_still m ok h (Aim q) w (λ b l. refl) refl (subst (Orients m h) (same_Some (v ++ u) w e) (ends_orients m ok h q (v ++ u) l (way_ends m ok h q x v l (ih v s) i u y)))

  pub held_orients : {h : List Call} {plan : Plans} → Held m h plan → (w : List ℕ) → plan ≡ Some w → Orients m h w
  held_orients start w e = absurd (none-some w e)
  held_orients (call held rule) w e = rule_orients (held_orients held) rule w e

-- ---- the other parts, each from the rows of its call

module _ (m : Motion) (ok : Valid m) (h : List Call) (before : Plans) where
  plan_oriented : {after : Plans} {r : Answer} → Rule m h before Plan after r → (r ≡ Err CannotOrient) ↔ ((w : List ℕ) → Orients m h w → ⊥)
  plan_oriented (plan_stuck s) = (λ _ w o. stuck_orients_none m ok h s w o, λ _. refl)
  plan_oriented (plan_done {w} p) = (λ e. absurd (ok_err (Some (length w)) CannotOrient e), λ n. absurd (n w (planned_orients m ok h w p)))

  plan_few : {after : Plans} {r : Answer} → Rule m h before Plan after r → (l : ℕ) → r ≡ Ok (Some l) → l ≤ (size_of (possible m h) - 1) * m.poses * (m.poses - 1) / 2
  plan_few (plan_stuck s) l e = absurd (ok_err (Some l) CannotOrient (sym e))
  plan_few (plan_done {w} p) l e =
      subst (λ (x : ℕ). x ≤ (size_of (possible m h) - 1) * m.poses * (m.poses - 1) / 2) (same_length (length w) l e) (planned_short m ok h w p)

  module _ (orients : (w : List ℕ) → before ≡ Some w → Orients m h w) (q : ℕ) where
    aim_ended : {after : Plans} {r : Answer} → Rule m h before (Aim q) after r → (held : List ℕ) → q < m.poses → before ≡ Some held → (r ≡ Err CannotEndThere) ↔ ((w : List ℕ) → EndsAt m h q w → ⊥)
    aim_ended (aim_no_plan z) held l b = absurd (none-some held (sym z ∙ b))
    aim_ended (aim_no_pose s g) held l b = let z : ⊥ = omega arith in absurd z
    aim_ended (aim_never e {w = v} s l i n) held k b = (λ _. never_ends m ok h q e v l (orients v s) i n, λ _. refl)
    aim_ended (aim_too_long e {w = v} {u} s l i y z) held k b = (
      λ p. absurd (too_long_cannot p),
      λ n. absurd (n (v ++ u) (way_ends m ok h q e v l (orients v s) i u y)),
    )
      where
        too_long_cannot : ◌≡◌ {A = Answer} (Err PlanTooLong) (Err CannotEndThere) → ⊥
        too_long_cannot p = cc
    aim_ended (aim_done e {w = v} {u} s l i y z) held k b = (
      λ p. absurd (ok_err (Some (length (v ++ u))) CannotEndThere p),
      λ n. absurd (n (v ++ u) (way_ends m ok h q e v l (orients v s) i u y)),
    )

    aim_few : {after : Plans} {r : Answer} → Rule m h before (Aim q) after r → (l : ℕ) (held : List ℕ) → before ≡ Some held → r ≡ Ok (Some l) → l ≤ length held + (m.poses - 1)
    aim_few (aim_no_plan z) l held b e = absurd (ok_err (Some l) NoPlan (sym e))
    aim_few (aim_no_pose s g) l held b e = absurd (ok_err (Some l) NoPose (sym e))
    aim_few (aim_never x s k i n) l held b e = absurd (ok_err (Some l) CannotEndThere (sym e))
    aim_few (aim_too_long x s k i y z) l held b e = absurd (ok_err (Some l) PlanTooLong (sym e))
    aim_few (aim_done x {w = v} {u} s k i y z) l held b e =
        let same : length v ≡ length held = ap length (same_Some v held (sym s ∙ b)) in
        let long : length (v ++ u) ≡ l = same_length (length (v ++ u)) l e in
        omega (arith, length-append v u, way_short m ok h q x v k (orients v s) i u y)

    aim_ends : {after : Plans} {r : Answer} → Rule m h before (Aim q) after r → (l : Option ℕ) (w : List ℕ) → r ≡ Ok l → after ≡ Some w → EndsAt m h q w
    aim_ends (aim_no_plan z) l w e a = absurd (ok_err l NoPlan (sym e))
    aim_ends (aim_no_pose s g) l w e a = absurd (ok_err l NoPose (sym e))
    aim_ends (aim_never x s k i n) l w e a = absurd (ok_err l CannotEndThere (sym e))
    aim_ends (aim_too_long x s k i y z) l w e a = absurd (ok_err l PlanTooLong (sym e))
    aim_ends (aim_done x {w = v} {u} s k i y z) l w e a = subst (EndsAt m h q) (same_Some (v ++ u) w a) (way_ends m ok h q x v k (orients v s) i u y)

-- ---- answers of accepted calls, and what refused ones leave

rule_told : (m : Motion) (h : List Call) (before : Plans) {c : Call} {after : Plans} {r : Answer} → Rule m h before c after r → (l : Option ℕ) → r ≡ Ok l → l ≡ length_of after
rule_told m h before (bar_no_action g) l e = absurd (ok_err l _ (sym e))
rule_told m h before (bar_done k) l e = sym (same_ok None l e)
rule_told m h before (allow_no_action g) l e = absurd (ok_err l _ (sym e))
rule_told m h before (allow_done k) l e = sym (same_ok None l e)
rule_told m h before shake_done l e = sym (same_ok None l e)
rule_told m h before (step_no_action g) l e = absurd (ok_err l _ (sym e))
rule_told m h before (step_barred k b) l e = absurd (ok_err l _ (sym e))
rule_told m h before (step_done {a} t) l e = sym (same_ok (length_of (advanced before a)) l e)
rule_told m h before (plan_stuck s) l e = absurd (ok_err l _ (sym e))
rule_told m h before (plan_done {w} p) l e = sym (same_ok (Some (length w)) l e)
rule_told m h before (put_too_long k) l e = absurd (ok_err l _ (sym e))
rule_told m h before (put_bad k b) l e = absurd (ok_err l _ (sym e))
rule_told m h before (put_apart k p n) l e = absurd (ok_err l _ (sym e))
rule_told m h before (put_done {b} k o) l e = sym (same_ok (Some (length b.now)) l e)
rule_told m h before (add_no_plan z) l e = absurd (ok_err l _ (sym e))
rule_told m h before (add_no_action s g) l e = absurd (ok_err l _ (sym e))
rule_told m h before (add_barred s k b) l e = absurd (ok_err l _ (sym e))
rule_told m h before (add_too_long s t k) l e = absurd (ok_err l _ (sym e))
rule_told m h before (add_done {a} {w} s t k) l e = sym (same_ok (Some (length (w ++ (a ∷ [])))) l e)
rule_told m h before (cut_no_plan z) l e = absurd (ok_err l _ (sym e))
rule_told m h before (cut_no_place s k) l e = absurd (ok_err l _ (sym e))
rule_told m h before (cut_apart s k x) l e = absurd (ok_err l _ (sym e))
rule_told m h before (cut_done {n} {w} s k o) l e = sym (same_ok (Some (length (without w n))) l e)
rule_told m h before (aim_no_plan z) l e = absurd (ok_err l _ (sym e))
rule_told m h before (aim_no_pose s g) l e = absurd (ok_err l _ (sym e))
rule_told m h before (aim_never x s k i n) l e = absurd (ok_err l _ (sym e))
rule_told m h before (aim_too_long x s k i y z) l e = absurd (ok_err l _ (sym e))
rule_told m h before (aim_done x {w} {u} s k i y z) l e = sym (same_ok (Some (length (w ++ u))) l e)

module _ (m : Motion) (ok : Valid m) (h : List Call) (before : Plans) where
  rule_kept : {c : Call} {after : Plans} {r : Answer} → Rule m h before c after r → (e : Refusal) → r ≡ Err e → (after ≡ before) × (permitted m (c ∷ h) ≡ permitted m h) × (possible m (c ∷ h) ≡ possible m h)
  rule_kept (bar_no_action {a} g) e p = let s = still_bar m ok h a g in (refl, s.0, s.1)
  rule_kept (bar_done k) e p = absurd (ok_err None e p)
  rule_kept (allow_no_action {a} g) e p = let s = still_allow m ok h a g in (refl, s.0, s.1)
  rule_kept (allow_done k) e p = absurd (ok_err None e p)
  rule_kept shake_done e p = absurd (ok_err None e p)
  rule_kept (step_no_action {a} g) e p = let s = still_step m ok h a (not_absent m h a g) in (refl, s.0, s.1)
  rule_kept (step_barred {a} k b) e p = let s = still_step m ok h a (barred-not m ok h a b) in (refl, s.0, s.1)
  rule_kept (step_done {a} t) e p = absurd (ok_err (length_of (advanced before a)) e p)
  rule_kept (plan_stuck s) e p = (refl, permitted_same m (Plan ∷ h) h (λ b l. refl), refl)
  rule_kept (plan_done {w} s) e p = absurd (ok_err (Some (length w)) e p)
  rule_kept (put_too_long {b} k) e p = (refl, permitted_same m (Put b ∷ h) h (λ b l. refl), refl)
  rule_kept (put_bad {b} k x) e p = (refl, permitted_same m (Put b ∷ h) h (λ b l. refl), refl)
  rule_kept (put_apart {b} k x n) e p = (refl, permitted_same m (Put b ∷ h) h (λ b l. refl), refl)
  rule_kept (put_done {b} k o) e p = absurd (ok_err (Some (length b.now)) e p)
  rule_kept (add_no_plan {a} z) e p = (refl, permitted_same m (Add a ∷ h) h (λ b l. refl), refl)
  rule_kept (add_no_action {a} s g) e p = (refl, permitted_same m (Add a ∷ h) h (λ b l. refl), refl)
  rule_kept (add_barred {a} s k b) e p = (refl, permitted_same m (Add a ∷ h) h (λ b l. refl), refl)
  rule_kept (add_too_long {a} s t k) e p = (refl, permitted_same m (Add a ∷ h) h (λ b l. refl), refl)
  rule_kept (add_done {a} {w} s t k) e p = absurd (ok_err (Some (length (w ++ (a ∷ [])))) e p)
  rule_kept (cut_no_plan {n} z) e p = (refl, permitted_same m (Cut n ∷ h) h (λ b l. refl), refl)
  rule_kept (cut_no_place {n} s k) e p = (refl, permitted_same m (Cut n ∷ h) h (λ b l. refl), refl)
  rule_kept (cut_apart {n} s k x) e p = (refl, permitted_same m (Cut n ∷ h) h (λ b l. refl), refl)
  rule_kept (cut_done {n} {w} s k o) e p = absurd (ok_err (Some (length (without w n))) e p)
  rule_kept (aim_no_plan {q} z) e p = (refl, permitted_same m (Aim q ∷ h) h (λ b l. refl), refl)
  rule_kept (aim_no_pose {q} s g) e p = (refl, permitted_same m (Aim q ∷ h) h (λ b l. refl), refl)
  rule_kept (aim_never {q} x s k i n) e p = (refl, permitted_same m (Aim q ∷ h) h (λ b l. refl), refl)
  rule_kept (aim_too_long {q} x s k i y z) e p = (refl, permitted_same m (Aim q ∷ h) h (λ b l. refl), refl)
  rule_kept (aim_done x {w} {u} s k i y z) e p = absurd (ok_err (Some (length (w ++ u))) e p)

-- ---- the whole

pub rules_are_sure : RulesAreSure
rules_are_sure m ok h c before after r held rule =
    let orients = held_orients m ok held in
    record {
      sure = rule_orients m ok orients rule;
      oriented = λ e. plan_oriented m ok h before (subst (λ x. Rule m h before x after r) e rule);
      ended = λ q w e. aim_ended m ok h before orients q (subst (λ x. Rule m h before x after r) e rule) w;
      plan_short = λ l e. plan_few m ok h before (subst (λ x. Rule m h before x after r) e rule) l;
      aim_short = λ q l w e. aim_few m ok h before orients q (subst (λ x. Rule m h before x after r) e rule) l w;
      aimed = λ q l w e. aim_ends m ok h before orients q (subst (λ x. Rule m h before x after r) e rule) l w;
      told = rule_told m h before rule;
      kept = rule_kept m ok h before rule;
    }
