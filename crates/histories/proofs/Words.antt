-- What the words of the guarantee come to: permitted actions as a set, and the possible poses after each call.
use Rattle.std.proofs.Common.{◌≡◌, ℕ, zero, suc, ◌^◌, ◌<◌, ◌≤◌, Bool, true, false, cond, not, ◌&&◌, T, eqb, ltb, ◌↔◌, List, [], ◌∷◌, ◌++◌, sym, refl, ap, ◌∙◌, subst, inl, inr, not-le_of_lt, arith, ltb→lt, lt→ltb}
use Rattle.std.proofs.lemmas.Bool.{cases_Bool, cases_lt, cond_both, cond-true, cond-false, ne_eqb, lt-ltb, le-ltb}
use Rattle.feeders.specs.Motion.{Motion, Valid}
use Rattle.feeders.specs.Sets.{has, with, all_below}
use Rattle.feeders.specs.Image.{image}
use Rattle.feeders.proofs.Sets.{T_of_true, true_of_T, not-T_of_false, T-has-with, not-has-zero, below-has, sets_ext_T, all_below_cons}
use Rattle.feeders.proofs.Images.{image-below, image-empty, image-append}
use Rattle.graphs.specs.Distance.{AllUsable}
use Rattle.graphs.specs.Pairs.{pair_graph}
use Rattle.graphs.specs.PairRule.{every, size_of}
use Rattle.graphs.proofs.Sizes.{every-below, has-every, size_some, image_some}
use Rattle.histories.specs.History.{barred, permits, steps, possible, set_below, permitted, Permitted}
use Rattle.histories.specs.declared.call.Call.{Call}
use Rattle.histories.specs.declared.call.Call.TheVariants.{Bar, Allow, Shake, Step, Plan, Put, Add, Cut, Aim}

-- ---- tests

pub T_and : (a b : Bool) → T (a && b) ↔ (T a × T b)
T_and true b = (λ t. (tt, t), λ h. h.1)
T_and false b = (λ t. absurd t, λ h. h.0)

pub T_not : (b : Bool) → T (not b) ↔ (T b → ⊥)
T_not true = (λ t u. t, λ h. h tt)
T_not false = (λ t u. u, λ h. tt)

-- ---- the numbers that pass a test, as a set

pub T-has-set_below : (test : ℕ → Bool) (n a : ℕ) → T (has (set_below test n) a) ↔ ((a < n) × T (test a))
T-has-set_below test n a = (found n, kept n)
  where
    found : (n : ℕ) → T (has (set_below test n) a) → (a < n) × T (test a)
    found zero t = absurd (not-has-zero a t)
    found (suc n) t =
        let wider : ((a < n) × T (test a)) → (a < suc n) × T (test a) = λ r. (omega (arith, r.0), r.1) in
        elim (cases_Bool (test n)) [
          | inl e ↦ elim ((T-has-with (set_below test n) n a).0 (subst (λ (x : ℕ). T (has x a)) (cond-true (test n) (with (set_below test n) n) (set_below test n) e) t)) [
            | inl u ↦ wider (found n u)
            | inr h ↦ (omega arith, subst (λ (x : ℕ). T (test x)) (sym h) (T_of_true (test n) e))
          ]
          | inr e ↦ wider (found n (subst (λ (x : ℕ). T (has x a)) (cond-false (test n) (with (set_below test n) n) (set_below test n) e) t))
        ]

    kept : (n : ℕ) → (a < n) × T (test a) → T (has (set_below test n) a)
    kept zero r = let z : ⊥ = omega (arith, r.0) in absurd z
    kept (suc n) r =
        cond_both (test n) (with (set_below test n) n) (set_below test n) (λ x. T (has x a))
        (λ _. (T-has-with (set_below test n) n a).1 (elim (cases_lt a n) [
          | inl l ↦ inl (kept n (l, r.1))
          | inr g ↦ inr (omega (arith, r.0))
        ]))
        (λ no-n. elim (cases_lt a n) [
          | inl l ↦ kept n (l, r.1)
          | inr g ↦ let e : a ≡ n = omega (arith, r.0) in absurd (not-T_of_false (test n) no-n (subst (λ (x : ℕ). T (test x)) e r.1))
        ])

pub set_below-below : (test : ℕ → Bool) (n : ℕ) → set_below test n < 2 ^ n
set_below-below test n = below-has n (set_below test n) (λ a t. ((T-has-set_below test n a).0 t).0)

-- ---- permitted actions

module _ (m : Motion) (h : List Call) where
  pub permits_known : (a : ℕ) → T (permits m h a) → a < m.actions
  permits_known a t = ltb→lt a m.actions ((T_and (ltb a m.actions) (not (barred h a))).0 t).0

  pub not_absent : (a : ℕ) → m.actions ≤ a → T (permits m h a) → ⊥
  not_absent a g t = not-le_of_lt (permits_known a t) g

  pub permits-free : (a : ℕ) → T (permits m h a) → T (barred h a) → ⊥
  permits-free a t = (T_not (barred h a)).0 ((T_and (ltb a m.actions) (not (barred h a))).0 t).1

  pub permits_from : (a : ℕ) → a < m.actions → (T (barred h a) → ⊥) → T (permits m h a)
  permits_from a l n = (T_and (ltb a m.actions) (not (barred h a))).1 (lt→ltb a m.actions l, (T_not (barred h a)).1 n)

  pub has-permitted : (a : ℕ) → T (has (permitted m h) a) ↔ T (permits m h a)
  has-permitted a = (
    λ t. ((T-has-set_below (permits m h) m.actions a).0 t).1,
    λ t. (T-has-set_below (permits m h) m.actions a).1 (permits_known a t, t),
  )

  pub usable_permitted : (w : List ℕ) → AllUsable (pair_graph m) (permitted m h) w → Permitted m h w
  usable_permitted [] u = tt
  usable_permitted (a ∷ w) u = ((has-permitted a).0 u.0.1, usable_permitted w u.1)

  pub permitted_usable : (w : List ℕ) → Permitted m h w → AllUsable (pair_graph m) (permitted m h) w
  permitted_usable [] p = tt
  permitted_usable (a ∷ w) p = ((permits_known a p.0, (has-permitted a).1 p.0), permitted_usable w p.1)

  pub permitted_known : (w : List ℕ) → Permitted m h w → T (all_below m.actions w)
  permitted_known [] p = tt
  permitted_known (a ∷ w) p = (all_below_cons m.actions a w).1 (permits_known a p.0, permitted_known w p.1)

  pub permitted-append : (v w : List ℕ) → Permitted m h v → Permitted m h w → Permitted m h (v ++ w)
  permitted-append [] w p q = q
  permitted-append (a ∷ v) w p q = (p.0, permitted-append v w p.1 q)

  pub permitted_parts : (v w : List ℕ) → Permitted m h (v ++ w) → Permitted m h v × Permitted m h w
  permitted_parts [] w p = (tt, p)
  permitted_parts (a ∷ v) w p = let r = permitted_parts v w p.1 in ((p.0, r.0), r.1)

-- histories that bar the same actions of the feeder permit the same
module _ (m : Motion) (h k : List Call) (same : (b : ℕ) → b < m.actions → barred h b ≡ barred k b) where
  pub permits_like : (b : ℕ) → T (permits m h b) → T (permits m k b)
  permits_like b t =
      let l = permits_known m h b t in
      permits_from m k b l (λ u. permits-free m h b t (subst T (sym (same b l)) u))

  pub permitted_all_like : (w : List ℕ) → Permitted m h w → Permitted m k w
  permitted_all_like [] p = tt
  permitted_all_like (a ∷ w) p = (permits_like a p.0, permitted_all_like w p.1)

pub permitted_same : (m : Motion) (h k : List Call) → ((b : ℕ) → b < m.actions → barred h b ≡ barred k b) → permitted m h ≡ permitted m k
permitted_same m h k same =
    sets_ext_T (permitted m h) (permitted m k) (λ a t. (has-permitted m k a).1 (permits_like m h k same a ((has-permitted m h a).0 t)))
    (λ a t. (has-permitted m h a).1 (permits_like m k h (λ b l. sym (same b l)) a ((has-permitted m k a).0 t)))

-- a call that bars or allows an action which the feeder does not have changes none that it has
pub elsewhere : (m : Motion) (h : List Call) (a : ℕ) (x : Bool) → m.actions ≤ a → (b : ℕ) → b < m.actions → cond (eqb a b) x (barred h b) ≡ barred h b
elsewhere m h a x g b l = cond-false (eqb a b) x (barred h b) (ne_eqb a b (λ e. omega arith))

-- ---- the possible poses

pub steps-permitted : (m : Motion) (h : List Call) → Permitted m h (steps m h)
steps-permitted m [] = tt
steps-permitted m (Bar a ∷ h) =
    cond_both (ltb a m.actions) [] (steps m h) (Permitted m (Bar a ∷ h)) (λ _. tt)
    (λ e. elim (cases_lt a m.actions) [
      | inl l ↦ absurd (not-T_of_false (ltb a m.actions) e (lt→ltb a m.actions l))
      | inr g ↦ permitted_all_like m h (Bar a ∷ h) (λ b l. sym (elsewhere m h a true g b l)) (steps m h) (steps-permitted m h)
    ])
steps-permitted m (Allow a ∷ h) =
    cond_both (ltb a m.actions) [] (steps m h) (Permitted m (Allow a ∷ h)) (λ _. tt)
    (λ e. elim (cases_lt a m.actions) [
      | inl l ↦ absurd (not-T_of_false (ltb a m.actions) e (lt→ltb a m.actions l))
      | inr g ↦ permitted_all_like m h (Allow a ∷ h) (λ b l. sym (elsewhere m h a false g b l)) (steps m h) (steps-permitted m h)
    ])
steps-permitted m (Shake ∷ h) = tt
steps-permitted m (Step a ∷ h) =
    let same : (w : List ℕ) → Permitted m h w → Permitted m (Step a ∷ h) w = permitted_all_like m h (Step a ∷ h) (λ b l. refl) in
    cond_both (permits m h a) (steps m h ++ (a ∷ [])) (steps m h) (Permitted m (Step a ∷ h))
    (λ e. same (steps m h ++ (a ∷ [])) (permitted-append m h (steps m h) (a ∷ []) (steps-permitted m h) (T_of_true (permits m h a) e, tt)))
    (λ e. same (steps m h) (steps-permitted m h))
steps-permitted m (Plan ∷ h) = permitted_all_like m h (Plan ∷ h) (λ b l. refl) (steps m h) (steps-permitted m h)
steps-permitted m (Put w ∷ h) = permitted_all_like m h (Put w ∷ h) (λ b l. refl) (steps m h) (steps-permitted m h)
steps-permitted m (Add b ∷ h) = permitted_all_like m h (Add b ∷ h) (λ b l. refl) (steps m h) (steps-permitted m h)
steps-permitted m (Cut n ∷ h) = permitted_all_like m h (Cut n ∷ h) (λ b l. refl) (steps m h) (steps-permitted m h)
steps-permitted m (Aim q ∷ h) = permitted_all_like m h (Aim q ∷ h) (λ b l. refl) (steps m h) (steps-permitted m h)

module _ (m : Motion) (ok : Valid m) (h : List Call) where
  pub steps_known : T (all_below m.actions (steps m h))
  steps_known = permitted_known m h (steps m h) (steps-permitted m h)

  pub possible-below : possible m h < 2 ^ m.poses
  possible-below = image-below m ok (every m) (steps m h) steps_known

  pub possible_some : 1 ≤ size_of (possible m h)
  possible_some =
      let first : T (has (every m) 0) = (has-every m 0).1 ok.some_pose in
      let few : 0 < 32 = omega arith in
      image_some m ok (every m) (steps m h) (every-below m) steps_known (size_some (every m) 0 few first)

  -- after a step of a permitted action
  pub possible_step : (a : ℕ) → T (permits m h a) → possible m (Step a ∷ h) ≡ image m (possible m h) (a ∷ [])
  possible_step a t =
      ap (image m (every m)) (cond-true (permits m h a) (steps m h ++ (a ∷ [])) (steps m h) (true_of_T (permits m h a) t))
      ∙ image-append m ok (every m) (steps m h) (a ∷ []) steps_known

  -- after a step that is refused
  pub possible_still : (a : ℕ) → (T (permits m h a) → ⊥) → possible m (Step a ∷ h) ≡ possible m h
  possible_still a n =
      elim (cases_Bool (permits m h a)) [
        | inl e ↦ absurd (n (T_of_true (permits m h a) e))
        | inr e ↦ ap (image m (every m)) (cond-false (permits m h a) (steps m h ++ (a ∷ [])) (steps m h) e)
      ]

  -- no steps bring all poses to all poses
  pub possible-every : image m (every m) [] ≡ every m
  possible-every = image-empty m (every m) (every-below m)

  -- after a bar or allow: of an action that the feeder has, and of another
  pub possible_reset : (a : ℕ) → a < m.actions → image m (every m) (cond (ltb a m.actions) [] (steps m h)) ≡ every m
  possible_reset a l = ap (image m (every m)) (cond-true (ltb a m.actions) [] (steps m h) (lt-ltb a m.actions l)) ∙ possible-every

  pub possible_elsewhere : (a : ℕ) → m.actions ≤ a → image m (every m) (cond (ltb a m.actions) [] (steps m h)) ≡ possible m h
  possible_elsewhere a g = ap (image m (every m)) (cond-false (ltb a m.actions) [] (steps m h) (le-ltb a m.actions g))
