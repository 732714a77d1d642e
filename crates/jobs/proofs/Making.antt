-- From what a method of a job has checked and changed to what the call does by the rules.
use Rattle.std.proofs.Common.{◌≡◌, ℕ, ◌-◌, ◌^◌, ◌<◌, ◌≤◌, Bool, true, false, cond, not, ◌&&◌, ◌||◌, T, eqb, ltb, List, [], ◌∷◌, Some, None, Ok, Err, Option, Result, IsErrAnd, ok_or, sym, refl, ap, ◌∙◌, subst, ap₂, inl, inr, lt_of_lt_of_le, pow_mono}
use Rattle.std.proofs.lemmas.Bool.{cases_eq, true_from_ne_false, eq-eqb, eqb-true, ne_eqb, lt-ltb}
use Rattle.std.proofs.lemmas.Result.{err_from_is_err_and}
use Rattle.refusals.specs.declared.Refusal.{Refusal}
use Rattle.refusals.specs.declared.Refusal.TheVariants.{NoAction, Barred}
use Rattle.feeders.specs.Motion.{Motion, Valid}
use Rattle.feeders.specs.Sets.{has, with}
use Rattle.feeders.specs.Image.{image}
use Rattle.feeders.proofs.Sets.{T_eq, T_of_true, not-T_of_false, has-with, sets_ext, sets_ext_T}
use Rattle.graphs.specs.PairRule.{every}
use Rattle.graphs.proofs.Sizes.{has-every}
use Rattle.plans.specs.declared.plan.Plan.{Plan}
use Rattle.histories.specs.History.{barred, permits, possible, permitted}
use Rattle.histories.specs.Rules.{Plans, Answer, length_of, advanced, Rule, bar_no_action, bar_done, allow_no_action, allow_done, shake_done, step_no_action, step_barred, step_done, start, call}
use Rattle.histories.specs.Promise.{Sure}
use Rattle.histories.specs.declared.call.Call.{Call}
use Rattle.histories.specs.declared.call.Call.TheVariants.{Bar, Allow, Shake, Step}
use Rattle.histories.proofs.Words.{permits_known, permits_from, has-permitted, permitted_same, set_below-below, possible-below, possible_step, possible_reset, possible-every}
use Rattle.histories.proofs.Sureness.{rules_are_sure}
use Rattle.jobs.specs.Sets.{less}
use Rattle.jobs.specs.Checks.{checked}
use Rattle.jobs.specs.Reach.{plan_of, Reached, Performs}
use Rattle.jobs.specs.declared.job.Job.{Job}
use Rattle.jobs.proofs.Checking.{has-less, checked_err}

-- ---- the permitted actions after a bar and after an allow

-- the tests of one action: whether the feeder has it, whether it is the one barred or allowed, and whether it was barred
after_bar : (l here was : Bool) → (l && not (cond here true was)) ≡ ((l && not was) && not here)
after_bar true true true = refl
after_bar true true false = refl
after_bar true false true = refl
after_bar true false false = refl
after_bar false here was = refl

after_allow : (l here was : Bool) → (here ≡ true → l ≡ true) → (l && not (cond here false was)) ≡ ((l && not was) || here)
after_allow true true true k = refl
after_allow true true false k = refl
after_allow true false true k = refl
after_allow true false false k = refl
after_allow false true was k = k refl
after_allow false false was k = refl

eqb_flip : (a b : ℕ) → eqb a b ≡ eqb b a
eqb_flip a b = elim (cases_eq a b) [
  | inl e ↦ eq-eqb a b e ∙ sym (eq-eqb b a (sym e))
  | inr n ↦ ne_eqb a b n ∙ sym (ne_eqb b a (λ e. n (sym e)))
]

module _ (m : Motion) (ok : Valid m) (h : List Call) (a : ℕ) where
  has-permits : (h : List Call) (b : ℕ) → has (permitted m h) b ≡ permits m h b
  has-permits h b = let t = has-permitted m h b in T_eq (has (permitted m h) b) (permits m h b) t.0 t.1

  pub permitted_bar : a < m.actions → permitted m (Bar a ∷ h) ≡ less (permitted m h) a
  permitted_bar l =
      let few : permitted m h < 2 ^ 32 = lt_of_lt_of_le (set_below-below (permits m h) m.actions) (pow_mono ok.few_actions) in
      sets_ext (permitted m (Bar a ∷ h)) (less (permitted m h) a) (λ b.
      has-permits (Bar a ∷ h) b ∙ after_bar (ltb b m.actions) (eqb a b) (barred h b)
      ∙ ap (λ (x : Bool). x && not (eqb a b)) (sym (has-permits h b)) ∙ sym (has-less (permitted m h) a b few (lt_of_lt_of_le l ok.few_actions)))

  pub permitted_allow : a < m.actions → permitted m (Allow a ∷ h) ≡ with (permitted m h) a
  permitted_allow l =
      sets_ext (permitted m (Allow a ∷ h)) (with (permitted m h) a) (λ b.
      let known : eqb a b ≡ true → ltb b m.actions ≡ true = λ e. lt-ltb b m.actions (subst (λ (x : ℕ). x < m.actions) (eqb-true a b e) l) in
      has-permits (Allow a ∷ h) b ∙ after_allow (ltb b m.actions) (eqb a b) (barred h b) known
      ∙ ap₂ (λ (x y : Bool). x || y) (sym (has-permits h b)) (eqb_flip a b) ∙ sym (has-with (permitted m h) a b))

  -- an action that the feeder has and the set lacks is barred
  pub barred_lacks : a < m.actions → (T (has (permitted m h) a) → ⊥) → T (barred h a)
  barred_lacks l n = T_of_true (barred h a) (true_from_ne_false (barred h a) (λ e. n ((has-permitted m h a).1 (permits_from m h a l (not-T_of_false (barred h a) e)))))

-- ---- what all calls share

module _ {F : Type 0} (m : Motion) (ok : Valid m) where
  leads : (j k : Job F) (c : Call) (h : List Call) (before after : Plans) (r : Answer) → Reached m h before j → Rule m h before c after r → k.allowed ≡ permitted m (c ∷ h) → k.poses ≡ possible m (c ∷ h) → plan_of k ≡ after → (x : Plans) × Reached m (c ∷ h) x k × Rule m h before c x r × Sure m h c before x r
  leads j k c h before after r R rule p q s = (
    after,
    record { allowed_as = p; poses_as = q; plan_as = s; held_as = call R.held_as rule },
    rule,
    rules_are_sure m ok h c before after r R.held_as rule,
  )

  -- an accepted call
  pub performed : (j k : Job F) (c : Call) (l : Option ℕ) → k.feeder ≡ j.feeder → ((h : List Call) (before : Plans) → Reached m h before j → (after : Plans) × Rule m h before c after (Ok l) × (k.allowed ≡ permitted m (c ∷ h)) × (k.poses ≡ possible m (c ∷ h)) × (plan_of k ≡ after)) → Performs m j c k (Ok l)
  performed j k c l f row = record {
    feeder_same = f;
    kept = tt;
    leads = λ h before R. let r = row h before R in leads j k c h before r.0 (Ok l) R r.1 r.2 r.3 r.4;
  }

  -- a refused call: the words of the guarantee are as they were, and so is the job
  pub refused : (j : Job F) (c : Call) (e : Refusal) → ((h : List Call) (before : Plans) → Reached m h before j → Rule m h before c before (Err e)) → Performs m j c j (Err e)
  refused j c e row = record {
    feeder_same = refl;
    kept = refl;
    leads = λ h before R.
        let rule = row h before R in
        let still = (rules_are_sure m ok h c before before (Err e) R.held_as rule).kept e refl in
        leads j j c h before before (Err e) R rule (R.allowed_as ∙ sym still.1) (R.poses_as ∙ sym still.2) R.plan_as;
  }

  -- a refused call that hands on, by a `?`, why another call was refused
  pub handed_on : (j : Job F) (c : Call) (plan : Plan) (r : Answer) (e : Refusal) → IsErrAnd r (λ x. x ≡ e) → plan ≡ j.plan → Performs m j c j (Err e) → Performs m j c (record { feeder = j.feeder; allowed = j.allowed; poses = j.poses; plan = plan; held = j.held }) r
  handed_on j c plan r e handed same done =
      let p = err_from_is_err_and r handed in
      rw (p.1, p.2, same) done

  -- a refused call that hands on, by `ok_or` and a `?`, that a value is missing
  pub missing : {A : Type 0} (j : Job F) (c : Call) (o : Option A) (r : Answer) (e d : Refusal) → IsErrAnd r (λ x. x ≡ e) → ◌≡◌ {A = Result A Refusal} (Err e) (ok_or o d) → (o ≡ None → Performs m j c j (Err d)) → Performs m j c j r
  missing j c None r e d handed is done =
      let same : e ≡ d = cc in
      handed_on j c j.plan r e handed refl (rw same (done refl))
  missing j c (Some x) r e d handed is done = absurd (cc)

  -- the job's sets as the words have them
  pub allowed_permits : (j : Job F) (h : List Call) (before : Plans) → Reached m h before j → (a : ℕ) → T (has j.allowed a) → T (permits m h a)
  allowed_permits j h before R a t = (has-permitted m h a).0 (rw R.allowed_as at t)

  pub lacks_barred : (j : Job F) (h : List Call) (before : Plans) → Reached m h before j → (a : ℕ) → a < m.actions → (T (has j.allowed a) → ⊥) → T (barred h a)
  lacks_barred j h before R a l n = barred_lacks m ok h a l (λ t. n (rw R.allowed_as t))

  pub poses_below : (j : Job F) (h : List Call) (before : Plans) → Reached m h before j → j.poses < 2 ^ m.poses
  poses_below j h before R = rw R.poses_as (possible-below m ok h)

  -- ---- new, bar, allow, shake, step

  pub new_reached : (j : Job F) → j.allowed ≡ 2 ^ m.actions - 1 → j.poses ≡ 2 ^ m.poses - 1 → plan_of j ≡ None → Reached m [] None j
  new_reached j a p q = record {
    allowed_as = a ∙ all_permitted;
    poses_as = p ∙ sym (possible-every m ok []);
    plan_as = q;
    held_as = start;
  }
    where
      -- the actions are poses of a feeder that has as many
      like : Motion
      like = record { poses = m.actions; actions = m.actions; next = m.next }

      all_permitted : 2 ^ m.actions - 1 ≡ permitted m []
      all_permitted =
          sets_ext_T (2 ^ m.actions - 1) (permitted m []) (λ b t. (has-permitted m [] b).1 (permits_from m [] b ((has-every like b).0 t) (λ u. u)))
          (λ b t. (has-every like b).1 (permits_known m [] b ((has-permitted m [] b).0 t)))

  pub bar_absent : (j : Job F) (a : ℕ) → m.actions ≤ a → Performs m j (Bar a) j (Err NoAction)
  bar_absent j a g = refused j (Bar a) NoAction (λ h before R. bar_no_action g)

  pub bar_performed : (j k : Job F) (a : ℕ) → a < m.actions → k.feeder ≡ j.feeder → k.allowed ≡ less j.allowed a → k.poses ≡ every m → plan_of k ≡ None → Performs m j (Bar a) k (Ok None)
  bar_performed j k a l f p q s =
      performed j k (Bar a) None f (λ h before R.
      (None, bar_done l, p ∙ ap (λ (x : ℕ). less x a) R.allowed_as ∙ sym (permitted_bar m ok h a l), q ∙ sym (possible_reset m ok h a l), s))

  pub allow_absent : (j : Job F) (a : ℕ) → m.actions ≤ a → Performs m j (Allow a) j (Err NoAction)
  allow_absent j a g = refused j (Allow a) NoAction (λ h before R. allow_no_action g)

  pub allow_performed : (j k : Job F) (a : ℕ) → a < m.actions → k.feeder ≡ j.feeder → k.allowed ≡ with j.allowed a → k.poses ≡ every m → plan_of k ≡ None → Performs m j (Allow a) k (Ok None)
  allow_performed j k a l f p q s =
      performed j k (Allow a) None f (λ h before R.
      (None, allow_done l, p ∙ ap (λ (x : ℕ). with x a) R.allowed_as ∙ sym (permitted_allow m ok h a l), q ∙ sym (possible_reset m ok h a l), s))

  pub shake_performed : (j k : Job F) → k.feeder ≡ j.feeder → k.allowed ≡ j.allowed → k.poses ≡ every m → plan_of k ≡ None → Performs m j Shake k (Ok None)
  shake_performed j k f p q s =
      performed j k Shake None f (λ h before R.
      (None, shake_done, p ∙ R.allowed_as ∙ permitted_same m h (Shake ∷ h) (λ b l. refl), q ∙ sym (possible-every m ok h), s))

  pub step_refused : (j : Job F) (a : ℕ) (e : Refusal) → checked m j.allowed a ≡ Err e → Performs m j (Step a) j (Err e)
  step_refused j a e p =
      elim (checked_err m j.allowed a e p) [
        | inl r ↦ rw r.1 (refused j (Step a) NoAction (λ h before R. step_no_action r.0))
        | inr r ↦ rw r.2 (refused j (Step a) Barred (λ h before R. step_barred r.0 (lacks_barred j h before R a r.0 r.1)))
      ]

  pub step_performed : (j k : Job F) (a : ℕ) (l : Option ℕ) → T (has j.allowed a) → k.feeder ≡ j.feeder → k.allowed ≡ j.allowed → (j.poses < 2 ^ m.poses → k.poses ≡ image m j.poses (a ∷ [])) → plan_of k ≡ advanced (plan_of j) a → l ≡ length_of (plan_of k) → Performs m j (Step a) k (Ok l)
  step_performed j k a l t f p q s u =
      rw u (performed j k (Step a) (length_of (plan_of k)) f (λ h before R.
      let free = allowed_permits j h before R a t in
      let plan : plan_of k ≡ advanced before a = s ∙ ap (λ (x : Plans). advanced x a) R.plan_as in
      let rule : Rule m h before (Step a) (plan_of k) (Ok (length_of (plan_of k))) = rw plan (step_done free) in
      (plan_of k, rule, p ∙ R.allowed_as ∙ permitted_same m h (Step a ∷ h) (λ b l. refl), q (poses_below j h before R) ∙ ap (λ (x : ℕ). image m x (a ∷ [])) R.poses_as ∙ sym (possible_step m ok h a free), refl)))
