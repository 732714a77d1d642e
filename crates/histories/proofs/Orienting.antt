-- Lists that orient: why each call leaves one where it leaves a plan, and why no list does where a call is refused for good.
use Rattle.std.proofs.Common.{◌≡◌, ℕ, ◌+◌, ◌-◌, ◌*◌, ◌/◌, ◌^◌, ◌<◌, ◌≤◌, T, eqb, List, [], ◌∷◌, ◌++◌, length, take, drop, Some, None, sym, refl, ap, ◌∙◌, subst, inl, inr, lt_of_lt_of_le, mul_assoc, mul_comm, le_of_eq, le_trans, le_antisymm, arith, eqb→eq, pow_mono}
use Rattle.std.proofs.lemmas.Bool.{cases_Bool, cond-true, cond-false}
use Rattle.std.proofs.lemmas.List.{take-append-drop}
use Rattle.std.proofs.lemmas.Option.{none-some, same_Some}
use Rattle.feeders.specs.Motion.{Motion, Valid, brings}
use Rattle.feeders.specs.Sets.{has, all_below}
use Rattle.feeders.specs.Image.{image}
use Rattle.feeders.proofs.Sets.{T_of_true, T-has_one, has-below, sets_ext_T}
use Rattle.feeders.proofs.Images.{has-image, image-below, image-append, brings-append, brings_stays}
use Rattle.graphs.specs.Distance.{NoDistance, Way}
use Rattle.graphs.specs.Pairs.{start}
use Rattle.graphs.specs.PairRule.{One, PairRule, Stuck, every, size_of}
use Rattle.graphs.specs.Poses.{pose_graph}
use Rattle.graphs.proofs.Numbering.{start_double}
use Rattle.graphs.proofs.PairRules.{pair_laws}
use Rattle.graphs.proofs.PoseRules.{pose_laws}
use Rattle.graphs.proofs.Sizes.{has-every, image-size, image_some, one_bit, size_one, image_member}
use Rattle.histories.specs.History.{permits, steps, possible, permitted, Permitted, Orients, EndsAt}
use Rattle.histories.specs.Rules.{Plans, advanced, without}
use Rattle.histories.specs.declared.call.Call.{Call}
use Rattle.histories.specs.declared.call.Call.TheVariants.{Step}
use Rattle.histories.proofs.Words.{usable_permitted, permitted_usable, permitted_known, permitted-append, permitted_parts, permitted_all_like, steps-permitted, steps_known, possible-below, possible_step}

-- ---- plans

-- a plan that a step leaves was the same with the action before it
pub advanced_was : (before : Plans) (a : ℕ) (w : List ℕ) → advanced before a ≡ Some w → before ≡ Some (a ∷ w)
advanced_was None a w e = absurd (none-some w e)
advanced_was (Some []) a w e = absurd (none-some w e)
advanced_was (Some (b ∷ v)) a w e =
    elim (cases_Bool (eqb b a)) [
      | inl t ↦ let x : Some v ≡ Some w = sym (cond-true (eqb b a) (Some v) None t) ∙ e in let y = same_Some v w x in let z : b ≡ a = eqb→eq b a (T_of_true (eqb b a) t) in cc
      | inr t ↦ absurd (none-some w (sym (cond-false (eqb b a) (Some v) None t) ∙ e))
    ]

-- ---- images of one pose

module _ (m : Motion) (ok : Valid m) where
  pub image_one : (s : ℕ) (w : List ℕ) → s < 2 ^ m.poses → T (all_below m.actions w) → One s → One (image m s w)
  image_one s w l t o =
      le_antisymm (le_trans (image-size m ok s w) (le_of_eq o)) (image_some m ok s w l t (le_of_eq (sym o)))

  pub image_bit : (e : ℕ) (w : List ℕ) → e < m.poses → image m (2 ^ e) w ≡ 2 ^ brings m e w
  image_bit e w l =
      sets_ext_T (image m (2 ^ e) w) (2 ^ brings m e w)
      (λ q t. let r = (has-image m (2 ^ e) w q).0 t in (T-has_one (brings m e w) q).1 (sym r.3 ∙ ap (λ (p : ℕ). brings m p w) ((T-has_one e r.0).0 r.2)))
      (λ q t. (has-image m (2 ^ e) w q).1 (e, l, (T-has_one e e).1 refl, sym ((T-has_one (brings m e w) q).0 t)))

  -- a set that is one pose is the bit of that pose
  pub bit_of_one : (s : ℕ) → s < 2 ^ m.poses → One s → (e : ℕ) × (e < m.poses) × (s ≡ 2 ^ e)
  bit_of_one s l o =
      let r = (one_bit s (lt_of_lt_of_le l (pow_mono ok.few_poses))).0 o in
      (r.0, has-below m.poses s r.0 l (subst (λ (x : ℕ). T (has x r.0)) (sym r.2) ((T-has_one r.0 r.0).1 refl)), r.2)

  pub one_of_bit : (e : ℕ) → e < m.poses → One (2 ^ e)
  one_of_bit e l = size_one e (lt_of_lt_of_le l ok.few_poses)

-- the number of pairs, with nothing halved but the whole
pairs_halved : (k n : ℕ) → k * start n ≡ k * n * (n - 1) / 2
pairs_halved k n =
    let e : k * n * (n - 1) ≡ 2 * (k * start n) = mul_assoc k n (n - 1) ∙ ap (λ (x : ℕ). k * x) (sym (start_double n)) ∙ sym (mul_assoc k 2 (start n)) ∙ ap (λ (x : ℕ). x * start n) (mul_comm k 2) ∙ mul_assoc 2 k (start n) in
    let d : 2 * (k * start n) / 2 ≡ k * start n = omega arith in
    sym (ap (λ (x : ℕ). x / 2) e ∙ d)

-- ---- after a history

module _ (m : Motion) (ok : Valid m) (h : List Call) where
  -- a longer list acts on what the first part leaves
  pub image-joined : (v w : List ℕ) → Permitted m h v → image m (possible m h) (v ++ w) ≡ image m (image m (possible m h) v) w
  image-joined v w p = image-append m ok (possible m h) v w (permitted_known m h v p)

  pub reached_below : (w : List ℕ) → Permitted m h w → image m (possible m h) w < 2 ^ m.poses
  reached_below w p = image-below m ok (possible m h) w (permitted_known m h w p)

  -- a list that orients still does with permitted actions after it
  pub orients_more : (w u : List ℕ) → Orients m h w → Permitted m h u → Orients m h (w ++ u)
  orients_more w u o p = (
    permitted-append m h w u o.0 p,
    subst One (sym (image-joined w u o.0)) (image_one m ok (image m (possible m h) w) u (reached_below w o.0) (permitted_known m h u p) o.1),
  )

  -- what is left of such a list after its first action orients what that action leaves
  pub orients_step : (a : ℕ) (w : List ℕ) → T (permits m h a) → Orients m h (a ∷ w) → Orients m (Step a ∷ h) w
  orients_step a w t o = (
    permitted_all_like m h (Step a ∷ h) (λ b l. refl) w o.0.1,
    subst One (image-joined (a ∷ []) w (t, tt) ∙ ap (λ (s : ℕ). image m s w) (sym (possible_step m ok h a t))) o.1,
  )

  -- without one action a list of permitted actions is one still
  pub permitted-without : (w : List ℕ) (n : ℕ) → n < length w → Permitted m h w → Permitted m h (without w n)
  permitted-without w n l p =
      let front = permitted_parts m h (take n w) (drop n w) (subst (Permitted m h) (sym (take-append-drop n w)) p) in
      let back = permitted_parts m h (take (n + 1) w) (drop (n + 1) w) (subst (Permitted m h) (sym (take-append-drop (n + 1) w)) p) in
      permitted-append m h (take n w) (drop (n + 1) w) front.0 back.1

  -- ---- the pair rule

  pub planned_orients : (w : List ℕ) → PairRule m (permitted m h) (possible m h) w → Orients m h w
  planned_orients w r =
      let o = (pair_laws m (permitted m h) ok).orients (possible m h) w (possible-below m ok h) r in
      (usable_permitted m h w o.0, o.1)

  pub stuck_orients_none : Stuck m (permitted m h) (possible m h) → (w : List ℕ) → Orients m h w → ⊥
  stuck_orients_none s w o =
      (pair_laws m (permitted m h) ok).exact (steps m h) (permitted_usable m h (steps m h) (steps-permitted m h)) s w (permitted_usable m h w o.0, o.1)

  pub planned_short : (w : List ℕ) → PairRule m (permitted m h) (possible m h) w → length w ≤ (size_of (possible m h) - 1) * m.poses * (m.poses - 1) / 2
  planned_short w r =
      subst (λ (x : ℕ). length w ≤ x) (pairs_halved (size_of (possible m h) - 1) m.poses) ((pair_laws m (permitted m h) ok).short (possible m h) w (possible-below m ok h) r)

  -- ---- the way to a pose

  module _ (q e : ℕ) (w : List ℕ) (there : q < m.poses) (orients : Orients m h w) (end : image m (possible m h) w ≡ 2 ^ e) where
    pub end_below : e < m.poses
    end_below =
        has-below m.poses (image m (possible m h) w) e (reached_below w orients.0) (subst (λ (x : ℕ). T (has x e)) (sym end) ((T-has_one e e).1 refl))

    pub way_ends : (u : List ℕ) → Way (pose_graph m q) (permitted m h) e u → EndsAt m h q (w ++ u)
    way_ends u way =
        let r = (pose_laws m (permitted m h) ok).ends e q u end_below there way in
        (permitted-append m h w u orients.0 (usable_permitted m h u r.0), image-joined w u orients.0 ∙ ap (λ (s : ℕ). image m s u) end ∙ image_bit m ok e u end_below ∙ ap (λ (x : ℕ). 2 ^ x) r.1)

    pub way_short : (u : List ℕ) → Way (pose_graph m q) (permitted m h) e u → length u ≤ m.poses - 1
    way_short u way = (pose_laws m (permitted m h) ok).short e q u end_below there way

    -- a list that brings the possible poses to q brings, after the steps made, every pose to q: the end pose too
    pub never_ends : NoDistance (pose_graph m q) (permitted m h) e → (u : List ℕ) → EndsAt m h q u → ⊥
    never_ends none u ends =
        let all = steps m h in
        let p = brings m e all in
        let inside = image_member m (every m) all e end_below ((has-every m e).1 end_below) in
        let below = brings_stays m ok e all end_below (steps_known m ok h) in
        let reached = image_member m (possible m h) u p below inside in
        let at-q : brings m p u ≡ q = (T-has_one q (brings m p u)).0 (subst (λ (x : ℕ). T (has x (brings m p u))) ends.1 reached) in
        (pose_laws m (permitted m h) ok).never e q (all ++ u) end_below there none (permitted_usable m h (all ++ u) (permitted-append m h all u (steps-permitted m h) ends.0)) (brings-append m e all u ∙ at-q)
