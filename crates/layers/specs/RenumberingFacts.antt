-- A renumbering layer keeps the rule of feeders, renames the poses of the feeder below, and by an empty table changes nothing.
use Rattle.std.specs.Prelude.{◌≡◌, ℕ, ◌<◌, ◌≤◌, true, false, nat_le, slice_index, refl}
use Rattle.std.proofs.Common.{sym, ◌∙◌, ap, inl, inr, arith}
use Rattle.std.proofs.lemmas.Bool.{cases_Bool, cases_lt, cond-true, cond-false, leb-true, le-leb}
use Rattle.feeders.specs.Motion.{Motion, Valid, Same}
use Rattle.layers.specs.Renumbering.{Numbering, Keeps, above, below, renumbered_motion, Renames}

-- ---- the two ways of a table

above_on : (t : Numbering) (n p : ℕ) → nat_le t.count n ≡ true → above t n p ≡ slice_index t.number p
above_on t n p e = cond-true (nat_le t.count n) (slice_index t.number p) p e

above_off : (t : Numbering) (n p : ℕ) → nat_le t.count n ≡ false → above t n p ≡ p
above_off t n p e = cond-false (nat_le t.count n) (slice_index t.number p) p e

below_on : (t : Numbering) (n q : ℕ) → nat_le t.count n ≡ true → below t n q ≡ slice_index t.place q
below_on t n q e = cond-true (nat_le t.count n) (slice_index t.place q) q e

below_off : (t : Numbering) (n q : ℕ) → nat_le t.count n ≡ false → below t n q ≡ q
below_off t n q e = cond-false (nat_le t.count n) (slice_index t.place q) q e

-- ---- inside, and back and forth

pub above_inside : (t : Numbering) → Keeps t → (n p : ℕ) → n ≤ 32 → p < n → above t n p < n
above_inside t k n p few h =
    elim (cases_Bool (nat_le t.count n)) [
      | inl e ↦ elim (cases_lt p t.count) [
        | inl l ↦ omega (arith, above_on t n p e, k.inside p l, leb-true t.count n e)
        | inr g ↦ omega (arith, above_on t n p e, k.own p g (omega arith))
      ]
      | inr e ↦ omega (arith, above_off t n p e)
    ]

-- the place of a number from count on is the number itself
pub below_inside : (t : Numbering) → Keeps t → (n q : ℕ) → n ≤ 32 → q < n → below t n q < n
below_inside t k n q few h =
    let b = k.back q (omega arith) in
    elim (cases_Bool (nat_le t.count n)) [
      | inl e ↦ elim (cases_lt (slice_index t.place q) t.count) [
        | inl l ↦ omega (arith, below_on t n q e, leb-true t.count n e)
        | inr g ↦ omega (arith, below_on t n q e, b.1, k.own (slice_index t.place q) g b.0)
      ]
      | inr e ↦ omega (arith, below_off t n q e)
    ]

pub below-above : (t : Numbering) → Keeps t → (n p : ℕ) → n ≤ 32 → p < n → below t n (above t n p) ≡ p
below-above t k n p few h =
    elim (cases_Bool (nat_le t.count n)) [
      | inl e ↦ ap (below t n) (above_on t n p e) ∙ below_on t n (slice_index t.number p) e ∙ k.forth p (omega arith)
      | inr e ↦ ap (below t n) (above_off t n p e) ∙ below_off t n p e
    ]

pub above-below : (t : Numbering) → Keeps t → (n q : ℕ) → n ≤ 32 → q < n → above t n (below t n q) ≡ q
above-below t k n q few h =
    elim (cases_Bool (nat_le t.count n)) [
      | inl e ↦ ap (above t n) (below_on t n q e) ∙ above_on t n (slice_index t.place q) e ∙ (k.back q (omega arith)).1
      | inr e ↦ ap (above t n) (below_off t n q e) ∙ above_off t n q e
    ]

-- ---- the layer

pub renumbered_valid : (m : Motion) (t : Numbering) → Valid m → Keeps t → Valid (renumbered_motion m t)
renumbered_valid m t v k = record {
  some_pose = v.some_pose;
  few_poses = v.few_poses;
  some_action = v.some_action;
  few_actions = v.few_actions;
  stays = λ q a hq ha. let p = below t m.poses q in above_inside t k m.poses (m.next p a) v.few_poses (v.stays p a (below_inside t k m.poses q v.few_poses hq) ha);
}

pub renumbered_renames : (m : Motion) (t : Numbering) → Valid m → Keeps t → Renames (above t m.poses) m (renumbered_motion m t)
renumbered_renames m t v k =
    let n = m.poses in
    let few = v.few_poses in
    record {
      poses = refl;
      actions = refl;
      inside = λ p h. above_inside t k n p few h;
      apart = λ p q hp hq e. sym (below-above t k n p few hp) ∙ ap (below t n) e ∙ below-above t k n q few hq;
      onto = λ q h. (below t n q, below_inside t k n q few h, above-below t k n q few h);
      moves = λ p a hp ha. ap (λ (x : ℕ). above t n (m.next x a)) (below-above t k n p few hp);
    }

-- ---- an empty table

above_own : (t : Numbering) → Keeps t → t.count ≡ 0 → (n p : ℕ) → n ≤ 32 → p < n → above t n p ≡ p
above_own t k e n p few h =
    above_on t n p (le-leb t.count n (omega arith)) ∙ k.own p (omega arith) (omega arith)

below_own : (t : Numbering) → Keeps t → t.count ≡ 0 → (n q : ℕ) → n ≤ 32 → q < n → below t n q ≡ q
below_own t k e n q few h =
    sym (ap (below t n) (above_own t k e n q few h)) ∙ below-above t k n q few h

pub renumbered_by_none : (m : Motion) (t : Numbering) → Valid m → Keeps t → t.count ≡ 0 → Same (renumbered_motion m t) m
renumbered_by_none m t v k e = record {
  poses = refl;
  actions = refl;
  moves = λ q a hq ha. ap (λ (x : ℕ). above t m.poses (m.next x a)) (below_own t k e m.poses q v.few_poses hq)
      ∙ above_own t k e m.poses (m.next q a) v.few_poses (v.stays q a hq ha);
}
