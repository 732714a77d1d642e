-- The same for the calls that make, take and change the plan.
use Rattle.std.proofs.Common.{◌≡◌, ℕ, ◌+◌, ◌^◌, ◌<◌, ◌≤◌, T, ◌⊎◌, List, [], ◌∷◌, ◌++◌, length, Some, None, Ok, Err, Option, Result, true, false, sym, refl, ap, ◌∙◌, subst, inl, inr, not-le_of_lt, ne_of_gt, arith, length-append, Bor}
use Rattle.std.specs.Result.{result_unwrap_or}
use Rattle.std.proofs.lemmas.Bool.{cases_Bool, cases_lt, cond-true, cond-false}
use Rattle.refusals.specs.declared.Refusal.{Refusal}
use Rattle.refusals.specs.declared.Refusal.TheVariants.{NoPose, NoAction, Barred, NoPlan, NoPlace, PlanTooLong, Apart, CannotOrient, CannotEndThere}
use Rattle.feeders.specs.Motion.{Motion, Valid}
use Rattle.feeders.specs.Sets.{has}
use Rattle.feeders.specs.Image.{image, imaged}
use Rattle.graphs.specs.Distance.{Way}
use Rattle.graphs.specs.PairRule.{One, PairRule, every, size_of}
use Rattle.graphs.specs.Poses.{pose_graph}
use Rattle.graphs.proofs.Sizes.{members-zero}
use Rattle.plans.specs.Calls.{put, pushed}
use Rattle.plans.specs.Calls as store
use Rattle.plans.specs.Held.{list_of}
use Rattle.plans.proofs.Fitting.{length-list_of_le}
use Rattle.planning.specs.Planned.{Refused}
use Rattle.planning.specs.Aimed.{AimRefused, no_pose, never, too_long}
use Rattle.histories.specs.History.{barred, steps, possible, permitted, Permitted, Orients}
use Rattle.histories.specs.Rules.{Plans, without, Bad, absent, forbidden, later, Rule, plan_stuck, plan_done, put_too_long, put_bad, put_apart, put_done, add_no_plan, add_no_action, add_barred, add_too_long, add_done, cut_no_plan, cut_no_place, cut_apart, cut_done, aim_no_plan, aim_no_pose, aim_never, aim_too_long, aim_done}
use Rattle.histories.specs.declared.call.Call.{Call}
use Rattle.histories.specs.declared.call.Call.TheVariants.{Plan, Put, Add, Cut, Aim}
use Rattle.histories.proofs.Words.{permitted_same, permitted_known, has-permitted, possible_some}
use Rattle.histories.proofs.Orienting.{end_below, permitted-without}
use Rattle.histories.proofs.Sureness.{held_orients}
use Rattle.jobs.specs.Sets.{OnlyPose}
use Rattle.jobs.specs.Checks.{checked, first_bad}
use Rattle.jobs.specs.Reach.{plan_of, Reached, Performs}
use Rattle.jobs.specs.Tells.{Tells, EndPose}
use Rattle.jobs.specs.declared.job.Job.{Job}
use Rattle.jobs.proofs.Checking.{only_one, checked_ok, checked_err, stored_ok, stored_err, removed_ok, removed_err, brought_image}
use Rattle.jobs.proofs.Making.{performed, refused, allowed_permits, lacks_barred, poses_below, barred_lacks}

-- ---- lists that are checked

-- a check answers one of the two
answered : (r : Result ℕ Refusal) → ((b : ℕ) × (r ≡ Ok b)) ⊎ ((e : Refusal) × (r ≡ Err e))
answered (Ok b) = inl (b, refl)
answered (Err e) = inr (e, refl)

module _ (m : Motion) (ok : Valid m) (h : List Call) where
  pub bad_first : (w : List ℕ) (e : Refusal) → first_bad m (permitted m h) w ≡ Some e → Bad m h w e
  bad_first [] e p = absurd (cc)
  bad_first (a ∷ w) e p = elim (answered (checked m (permitted m h) a)) [
    | inl r ↦ later ((has-permitted m h a).0 (checked_ok m (permitted m h) a r.0 r.1).1) (bad_first w e (rw (r.1, first_bad) at p))
    | inr r ↦ let q : Some r.0 ≡ Some e = rw (r.1, first_bad) at p in let same : e ≡ r.0 = cc in elim (checked_err m (permitted m h) a r.0 r.1) [
      | inl s ↦ rw (same, s.1) (absent s.0)
      | inr s ↦ rw (same, s.2) (forbidden s.0 (barred_lacks m ok h a s.0 s.1))
    ]
  ]

  pub good_all : (w : List ℕ) → first_bad m (permitted m h) w ≡ None → Permitted m h w
  good_all [] p = tt
  good_all (a ∷ w) p = elim (answered (checked m (permitted m h) a)) [
    | inl r ↦ ((has-permitted m h a).0 (checked_ok m (permitted m h) a r.0 r.1).1, good_all w (rw (r.1, first_bad) at p))
    | inr r ↦ let q : Some r.0 ≡ None = rw (r.1, first_bad) at p in absurd (cc)
  ]

-- ---- the plan that a job holds

-- the job tells this end pose
abbrev pub EndsIn : {F : Type 0} → Motion → Job F → Option ℕ → Type 0
EndsIn m j r = Tells m j (λ h plan. EndPose m h plan r)

-- the plan by what lies in the job
module _ {F : Type 0} (j : Job F) where
  pub plan_held : j.held ≡ true → plan_of j ≡ Some (list_of j.plan)
  plan_held e = cond-true j.held (Some (list_of j.plan)) None e

  pub plan_gone : j.held ≡ false → plan_of j ≡ None
  plan_gone e = cond-false j.held (Some (list_of j.plan)) None e

  pub plan_list : (w : List ℕ) → plan_of j ≡ Some w → (j.held ≡ true) × (w ≡ list_of j.plan)
  plan_list w p = elim (cases_Bool j.held) [
    | inl e ↦ let known = plan_held e in (e, cc)
    | inr e ↦ let known = plan_gone e in absurd (cc)
  ]

  -- a plan that is held has at most 16,384 actions
  pub held_short : (w : List ℕ) → plan_of j ≡ Some w → length w ≤ 16384
  held_short w p = rw (plan_list w p).1 (length-list_of_le j.plan)

-- the possible poses are not none
not-empty : (m : Motion) → Valid m → (h : List Call) → possible m h ≡ 0 → ⊥
not-empty m ok h e = ne_of_gt (possible_some m ok h) (ap size_of e ∙ members-zero 32)

module _ {F : Type 0} (m : Motion) (ok : Valid m) where
  -- an accepted call that leaves the words as they are, and the list w held
  held_performed : (j k : Job F) (c : Call) (w : List ℕ) (l : Option ℕ) → ((h : List Call) (b : ℕ) → barred h b ≡ barred (c ∷ h) b) → ((h : List Call) → steps m h ≡ steps m (c ∷ h)) → k.feeder ≡ j.feeder → k.allowed ≡ j.allowed → k.poses ≡ j.poses → l ≡ Some (length w) → ((h : List Call) (before : Plans) → Reached m h before j → (plan_of k ≡ Some w) × Rule m h before c (Some w) (Ok (Some (length w)))) → Performs m j c k (Ok l)
  held_performed j k c w l bars moves f p q n row =
      rw n (performed m ok j k c (Some (length w)) f (λ h before R.
      let r = row h before R in
      (Some w, r.1, p ∙ R.allowed_as ∙ permitted_same m h (c ∷ h) (λ b _. bars h b), q ∙ R.poses_as ∙ ap (image m (every m)) (moves h), r.0)))

  -- ---- plan

  pub plan_refused : (j : Job F) (e : Refusal) → Refused m j.allowed j.poses e → Performs m j Plan j (Err e)
  plan_refused j e (inl r) = refused m ok j Plan e (λ h before R. absurd (not-le_of_lt (poses_below m ok j h before R) r.0))
  plan_refused j e (inr r) =
      rw r.1 (refused m ok j Plan CannotOrient (λ h before R. elim r.2 [
        | inl stuck ↦ plan_stuck (rw (R.allowed_as, R.poses_as) at stuck)
        | inr zero ↦ absurd (not-empty m ok h (sym R.poses_as ∙ zero))
      ]))

  pub plan_performed : (j k : Job F) (w : List ℕ) (l : Option ℕ) → PairRule m j.allowed j.poses w → k.feeder ≡ j.feeder → k.allowed ≡ j.allowed → k.poses ≡ j.poses → plan_of k ≡ Some w → l ≡ Some (length w) → Performs m j Plan k (Ok l)
  plan_performed j k w l rule f p q holds n =
      held_performed j k Plan w l (λ h b. refl) (λ h. refl) f p q n (λ h before R.
      (holds, plan_done (rw (R.allowed_as, R.poses_as) at rule)))

  -- ---- put

  -- what the job's sets say of a list is what the words say of it
  pub list_good : (j : Job F) (h : List Call) (before : Plans) → Reached m h before j → (w : List ℕ) → first_bad m j.allowed w ≡ None → Permitted m h w
  list_good j h before R w p = good_all m ok h w (ap (λ (x : ℕ). first_bad m x w) (sym R.allowed_as) ∙ p)

  pub reached_image : (j : Job F) (h : List Call) (before : Plans) → Reached m h before j → (w : List ℕ) → Permitted m h w → result_unwrap_or (imaged m j.poses w) 0 ≡ image m (possible m h) w
  reached_image j h before R w p =
      brought_image m j.poses w (poses_below m ok j h before R) (permitted_known m h w p) ∙ ap (λ (s : ℕ). image m s w) R.poses_as

  pub put_long : (j : Job F) (b : Bor (List ℕ)) → 16384 < length b.now → Performs m j (Put b) j (Err PlanTooLong)
  put_long j b long = refused m ok j (Put b) PlanTooLong (λ h before R. put_too_long long)

  module _ (j : Job F) (b : Bor (List ℕ)) (room : length b.now ≤ 16384) where
    pub put_refused : (e : Refusal) → first_bad m j.allowed b.now ≡ Some e → Performs m j (Put b) j (Err e)
    put_refused e p =
        refused m ok j (Put b) e (λ h before R. put_bad room (bad_first m ok h b.now e (ap (λ (x : ℕ). first_bad m x b.now) (sym R.allowed_as) ∙ p)))

    pub put_parts : (o : Option ℕ) → first_bad m j.allowed b.now ≡ None → OnlyPose (result_unwrap_or (imaged m j.poses b.now) 0) o → o ≡ None → Performs m j (Put b) j (Err Apart)
    put_parts o p only none =
        refused m ok j (Put b) Apart (λ h before R. let good = list_good j h before R b.now p in
        put_apart room good (λ one. subst (OnlyPose (result_unwrap_or (imaged m j.poses b.now) 0)) none only (subst One (sym (reached_image j h before R b.now good)) one)))

    pub put-performed : (k : Job F) (o : Option ℕ) (e : ℕ) (l : Option ℕ) → first_bad m j.allowed b.now ≡ None → OnlyPose (result_unwrap_or (imaged m j.poses b.now) 0) o → o ≡ Some e → k.feeder ≡ j.feeder → k.allowed ≡ j.allowed → k.poses ≡ j.poses → k.held ≡ true → put b.now ≡ Ok (list_of k.plan) → l ≡ Some (length (list_of k.plan)) → Performs m j (Put b) k (Ok l)
    put-performed k o e l p only some f x y held stored n =
        let s = stored_ok b.now (list_of k.plan) stored in
        let one = only_one (result_unwrap_or (imaged m j.poses b.now) 0) e o some only in
        held_performed j k (Put b) b.now l (λ h b. refl) (λ h. refl) f x y (n ∙ ap (λ (w : List ℕ). Some (length w)) s.0) (λ h before R. let good = list_good j h before R b.now p in
        (plan_held k held ∙ ap Some s.0, put_done room (good, subst One (reached_image j h before R b.now good) one)))

  -- ---- add and cut: where no plan is held, and where the list w is held

  module _ (j : Job F) (gone : plan_of j ≡ None) where
    pub add_none : (a : ℕ) → Performs m j (Add a) j (Err NoPlan)
    add_none a = refused m ok j (Add a) NoPlan (λ h before R. add_no_plan (sym R.plan_as ∙ gone))

    pub cut_none : (n : ℕ) → Performs m j (Cut n) j (Err NoPlan)
    cut_none n = refused m ok j (Cut n) NoPlan (λ h before R. cut_no_plan (sym R.plan_as ∙ gone))

  module _ (j : Job F) (w : List ℕ) (held : plan_of j ≡ Some w) where
    -- the plan by the words, and what is known of it
    pub was : (h : List Call) (before : Plans) → Reached m h before j → (before ≡ Some w) × Orients m h w
    was h before R = let p = sym R.plan_as ∙ held in (p, held_orients m ok R.held_as w p)

    pub add_refused : (a : ℕ) (e : Refusal) → checked m j.allowed a ≡ Err e → Performs m j (Add a) j (Err e)
    add_refused a e p = elim (checked_err m j.allowed a e p) [
      | inl r ↦ rw r.1 (refused m ok j (Add a) NoAction (λ h before R. add_no_action (was h before R).0 r.0))
      | inr r ↦ rw r.2 (refused m ok j (Add a) Barred (λ h before R. add_barred (was h before R).0 r.0 (lacks_barred m ok j h before R a r.0 r.1)))
    ]

    pub add_long : (a : ℕ) (e : Refusal) → T (has j.allowed a) → pushed w a ≡ Err e → Performs m j (Add a) j (Err e)
    add_long a e t p =
        let r = stored_err (w ++ (a ∷ [])) e p in
        let full : 16384 ≤ length w = omega (arith, r.1, length-append w (a ∷ [])) in
        rw r.0 (refused m ok j (Add a) PlanTooLong (λ h before R. add_too_long (was h before R).0 (allowed_permits m ok j h before R a t) full))

    pub add-performed : (k : Job F) (a : ℕ) (l : Option ℕ) → T (has j.allowed a) → pushed w a ≡ Ok (list_of k.plan) → k.feeder ≡ j.feeder → k.allowed ≡ j.allowed → k.poses ≡ j.poses → k.held ≡ true → l ≡ Some (length (list_of k.plan)) → Performs m j (Add a) k (Ok l)
    add-performed k a l t p f x y counts n =
        let r = stored_ok (w ++ (a ∷ [])) (list_of k.plan) p in
        let room : length w < 16384 = omega (arith, r.1, length-append w (a ∷ [])) in
        held_performed j k (Add a) (w ++ (a ∷ [])) l (λ h b. refl) (λ h. refl) f x y (n ∙ ap (λ (u : List ℕ). Some (length u)) r.0) (λ h before R.
        (plan_held k counts ∙ ap Some r.0, add_done (was h before R).0 (allowed_permits m ok j h before R a t) room))

    pub cut_refused : (n : ℕ) (e : Refusal) → store.without w n ≡ Err e → Performs m j (Cut n) j (Err e)
    cut_refused n e p =
        let r = removed_err w n e p in
        rw r.0 (refused m ok j (Cut n) NoPlace (λ h before R. cut_no_place (was h before R).0 r.1))

    module _ (n : ℕ) (rest : List ℕ) (removed : store.without w n ≡ Ok rest) where
      -- where the rest of the plan brings the possible poses
      rest-image : (h : List Call) (before : Plans) → Reached m h before j → result_unwrap_or (imaged m j.poses rest) 0 ≡ image m (possible m h) (without w n)
      rest-image h before R =
          let r = removed_ok w rest n removed in
          ap (λ (x : List ℕ). result_unwrap_or (imaged m j.poses x) 0) r.0 ∙ reached_image j h before R (without w n) (permitted-without m ok h w n r.1 (was h before R).1.0)

      pub cut_parts : (o : Option ℕ) → OnlyPose (result_unwrap_or (imaged m j.poses rest) 0) o → o ≡ None → Performs m j (Cut n) j (Err Apart)
      cut_parts o only none =
          refused m ok j (Cut n) Apart (λ h before R. cut_apart (was h before R).0 (removed_ok w rest n removed).1
          (λ one. subst (OnlyPose (result_unwrap_or (imaged m j.poses rest) 0)) none only (subst One (sym (rest-image h before R)) one)))

      pub cut_performed : (k : Job F) (o : Option ℕ) (e : ℕ) (l : Option ℕ) → OnlyPose (result_unwrap_or (imaged m j.poses rest) 0) o → o ≡ Some e → k.feeder ≡ j.feeder → k.allowed ≡ j.allowed → k.poses ≡ j.poses → k.held ≡ true → list_of k.plan ≡ rest → l ≡ Some (length rest) → Performs m j (Cut n) k (Ok l)
      cut_performed k o e l only some f x y counts left s =
          let r = removed_ok w rest n removed in
          let one = only_one (result_unwrap_or (imaged m j.poses rest) 0) e o some only in
          held_performed j k (Cut n) (without w n) l (λ h b. refl) (λ h. refl) f x y (s ∙ ap (λ (u : List ℕ). Some (length u)) r.0) (λ h before R.
          (plan_held k counts ∙ ap Some (left ∙ r.0), cut_done (was h before R).0 r.1 (subst One (rest-image h before R) one)))

    -- the end pose is that of the plan
    pub ends_in : (r : Option ℕ) → OnlyPose (result_unwrap_or (imaged m j.poses w) 0) r → EndsIn m j r
    ends_in None only h plan R =
        let r = was h plan R in
        absurd (only (subst One (sym (reached_image j h plan R w r.1.0)) r.1.1))
    ends_in (Some e) only h plan R =
        let r = was h plan R in
        subst (λ (x : Plans). EndPose m h x (Some e)) (sym r.0) (e, refl, sym (reached_image j h plan R w r.1.0) ∙ only.1)

    module _ (e : ℕ) (ends : EndsIn m j (Some e)) where
      pub end_known : (h : List Call) (before : Plans) → Reached m h before j → image m (possible m h) w ≡ 2 ^ e
      end_known h before R =
          let r = subst (λ (x : Plans). EndPose m h x (Some e)) (was h before R).0 (ends h before R) in
          let same : r.0 ≡ e = cc in
          r.2 ∙ ap (λ (x : ℕ). 2 ^ x) same

  -- ---- aim

  module _ (j : Job F) (e : ℕ) (ends : EndsIn m j (Some e)) where
    -- a job whose end pose is told holds a plan
    ends_held : (h : List Call) (before : Plans) → Reached m h before j → j.held ≡ true
    ends_held h None R = let none = ends h None R in absurd (cc)
    ends_held h (Some w) R = (plan_list j w R.plan_as).0

    aimed_at : (h : List Call) (before : Plans) → Reached m h before j → (before ≡ Some (list_of j.plan)) × Orients m h (list_of j.plan) × (image m (possible m h) (list_of j.plan) ≡ 2 ^ e)
    aimed_at h before R =
        let held = plan_held j (ends_held h before R) in
        let p = was j (list_of j.plan) held h before R in
        (p.0, p.1, end_known j (list_of j.plan) held e ends h before R)

    end_there : (q : ℕ) → q < m.poses → (h : List Call) (before : Plans) → Reached m h before j → e < m.poses
    end_there q l h before R = let r = aimed_at h before R in end_below m ok h q e (list_of j.plan) l r.1 r.2

    pub aim_refused : (q : ℕ) {x : Refusal} → AimRefused m j.allowed e q (list_of j.plan) x → Performs m j (Aim q) j (Err x)
    aim_refused q (no_pose (inl g)) =
        refused m ok j (Aim q) NoPose (λ h before R. aim_no_pose (aimed_at h before R).0 g)
    aim_refused q (no_pose (inr g)) =
        refused m ok j (Aim q) NoPose (λ h before R. elim (cases_lt q m.poses) [
          | inl l ↦ absurd (not-le_of_lt (end_there q l h before R) g)
          | inr k ↦ aim_no_pose (aimed_at h before R).0 k
        ])
    aim_refused q (never l k none) =
        refused m ok j (Aim q) CannotEndThere (λ h before R. let r = aimed_at h before R in aim_never e r.0 l r.2 (rw R.allowed_as at none))
    aim_refused q (too_long {w = u} l k way long) =
        refused m ok j (Aim q) PlanTooLong (λ h before R. let r = aimed_at h before R in aim_too_long e r.0 l r.2 (rw R.allowed_as at way) long)

    pub aim_performed : (k : Job F) (q : ℕ) (l : Option ℕ) (u : List ℕ) → q < m.poses → Way (pose_graph m q) j.allowed e u → list_of k.plan ≡ list_of j.plan ++ u → k.feeder ≡ j.feeder → k.allowed ≡ j.allowed → k.poses ≡ j.poses → k.held ≡ j.held → l ≡ Some (length (list_of k.plan)) → Performs m j (Aim q) k (Ok l)
    aim_performed k q l u there way is f x y same n =
        let w = list_of j.plan in
        let fits : length w + length u ≤ 16384 = omega (arith, length-list_of_le k.plan, ap length is, length-append w u) in
        held_performed j k (Aim q) (w ++ u) l (λ h b. refl) (λ h. refl) f x y (n ∙ ap (λ (t : List ℕ). Some (length t)) is) (λ h before R. let r = aimed_at h before R in
        (plan_held k (same ∙ ends_held h before R) ∙ ap Some is, aim_done e r.0 there r.2 (rw R.allowed_as at way) fits))

  -- a job whose end pose is not told holds no plan
  pub no_end : (j : Job F) → EndsIn m j None → (h : List Call) (before : Plans) → Reached m h before j → before ≡ None
  no_end j ends h None R = refl
  no_end j ends h (Some w) R = let r = ends h (Some w) R in absurd (cc)

  pub aim_none : (j : Job F) (q : ℕ) → EndsIn m j None → Performs m j (Aim q) j (Err NoPlan)
  aim_none j q ends = refused m ok j (Aim q) NoPlan (λ h before R. aim_no_plan (no_end j ends h before R))
