-- Where lists of actions bring poses, and the laws of image.
use Rattle.std.proofs.Common.{◌≡◌, ℕ, zero, suc, ◌+◌, ◌^◌, ◌<◌, ◌≤◌, true, false, cond, T, ltb, ◌↔◌, List, [], ◌∷◌, ◌++◌, length, get_or, take, Ok, Err, sym, refl, ap, ◌∙◌, subst, inl, inr, le_refl, add-one, arith, rules}
use Rattle.std.proofs.lemmas.Nat.{pow_pos}
use Rattle.std.proofs.lemmas.List.{take_more}
use Rattle.std.proofs.lemmas.Bool.{cases_Bool, cases_lt, cond_both, cond-true, cond-false}
use Rattle.refusals.specs.declared.Refusal.TheVariants.{NoPose, NoAction}
use Rattle.feeders.specs.Motion.{Motion, Valid, brings, follows}
use Rattle.feeders.specs.Sets.{has, with, all_below}
use Rattle.feeders.specs.Image.{gathered, image, imaged}
use Rattle.feeders.specs.Laws.{ImageLaws}
use Rattle.feeders.proofs.Sets.{T_of_true, not-T_of_false, T-has-with, not-has-zero, has-below, with-below, sets_ext_T, all_below_cons}

-- ---- one action

-- a pose and an action that the feeder has are not refused
pub follows_ok : (m : Motion) (p a : ℕ) → p < m.poses → a < m.actions → follows m p a ≡ Ok (m.next p a)
follows_ok m p a hp ha = search rules

-- ---- lists of actions

pub brings-append : (m : Motion) (p : ℕ) (v w : List ℕ) → brings m p (v ++ w) ≡ brings m (brings m p v) w
brings-append m p [] w = refl
brings-append m p (a ∷ v) w = brings-append m (m.next p a) v w

-- one action more
pub brings_more : (m : Motion) (p : ℕ) (w : List ℕ) (i : ℕ) → i < length w → brings m p (take (i + 1) w) ≡ m.next (brings m p (take i w)) (get_or w i 0)
brings_more m p w i h = ap (brings m p) (take_more w i 0 h) ∙ brings-append m p (take i w) (get_or w i 0 ∷ [])

pub brings_stays : (m : Motion) → Valid m → (p : ℕ) (w : List ℕ) → p < m.poses → T (all_below m.actions w) → brings m p w < m.poses
brings_stays m v p [] h t = h
brings_stays m v p (a ∷ w) h t =
    let c = (all_below_cons m.actions a w).0 t in brings_stays m v (m.next p a) w (v.stays p a h c.0) c.1

-- ---- the poses gathered

-- q is among those gathered from the members below n exactly when one of these is brought to q
pub has-gathered : (m : Motion) (s : ℕ) (w : List ℕ) (n q : ℕ) → T (has (gathered m s w n) q) ↔ ((p : ℕ) × (p < n) × T (has s p) × (brings m p w ≡ q))
has-gathered m s w n q = (found n, met n)
  where
    found : (n : ℕ) → T (has (gathered m s w n) q) → (p : ℕ) × (p < n) × T (has s p) × (brings m p w ≡ q)
    found zero t = absurd (not-has-zero q t)
    found (suc n) t =
        let wider : ((p : ℕ) × (p < n) × T (has s p) × (brings m p w ≡ q)) → (p : ℕ) × (p < suc n) × T (has s p) × (brings m p w ≡ q) = λ r. (r.0, omega (arith, r.1), r.2, r.3) in
        elim (cases_Bool (has s n)) [
          | inl e ↦ elim ((T-has-with (gathered m s w n) (brings m n w) q).0 (subst (λ (x : ℕ). T (has x q)) (cond-true (has s n) (with (gathered m s w n) (brings m n w)) (gathered m s w n) e) t)) [
            | inl u ↦ wider (found n u)
            | inr h ↦ (n, omega arith, T_of_true (has s n) e, sym h)
          ]
          | inr e ↦ wider (found n (subst (λ (x : ℕ). T (has x q)) (cond-false (has s n) (with (gathered m s w n) (brings m n w)) (gathered m s w n) e) t))
        ]

    met : (n : ℕ) → ((p : ℕ) × (p < n) × T (has s p) × (brings m p w ≡ q)) → T (has (gathered m s w n) q)
    met zero r = let z : ⊥ = omega (arith, r.1) in absurd z
    met (suc n) r =
        cond_both (has s n) (with (gathered m s w n) (brings m n w)) (gathered m s w n) (λ x. T (has x q))
        (λ _. (T-has-with (gathered m s w n) (brings m n w) q).1 (elim (cases_lt r.0 n) [
          | inl l ↦ inl (met n (r.0, l, r.2, r.3))
          | inr g ↦ let e : r.0 ≡ n = omega (arith, r.1) in inr (sym r.3 ∙ ap (λ (x : ℕ). brings m x w) e)
        ]))
        (λ no-n. elim (cases_lt r.0 n) [
          | inl l ↦ met n (r.0, l, r.2, r.3)
          | inr g ↦ let e : r.0 ≡ n = omega (arith, r.1) in absurd (not-T_of_false (has s n) no-n (subst (λ (x : ℕ). T (has s x)) e r.2))
        ])

-- one pose more
pub gathered-has : (m : Motion) (s : ℕ) (w : List ℕ) (p : ℕ) → has s p ≡ true → gathered m s w (p + 1) ≡ with (gathered m s w p) (brings m p w)
gathered-has m s w p e = rw add-one (cond-true (has s p) (with (gathered m s w p) (brings m p w)) (gathered m s w p) e)

pub gathered_lacks : (m : Motion) (s : ℕ) (w : List ℕ) (p : ℕ) → has s p ≡ false → gathered m s w (p + 1) ≡ gathered m s w p
gathered_lacks m s w p e = rw add-one (cond-false (has s p) (with (gathered m s w p) (brings m p w)) (gathered m s w p) e)

-- ---- a bound

pub gathered-below : (m : Motion) → Valid m → (s : ℕ) (w : List ℕ) (n : ℕ) → n ≤ m.poses → T (all_below m.actions w) → gathered m s w n < 2 ^ m.poses
gathered-below m v s w zero h t = pow_pos m.poses
gathered-below m v s w (suc n) h t =
    let k : gathered m s w n < 2 ^ m.poses = gathered-below m v s w n (omega arith) t in
    cond_both (has s n) (with (gathered m s w n) (brings m n w)) (gathered m s w n) (λ x. x < 2 ^ m.poses)
    (λ _. with-below m.poses (gathered m s w n) (brings m n w) k (brings_stays m v n w h t)) (λ _. k)

pub image-below : (m : Motion) → Valid m → (s : ℕ) (w : List ℕ) → T (all_below m.actions w) → image m s w < 2 ^ m.poses
image-below m v s w t = gathered-below m v s w m.poses (le_refl m.poses) t

-- ---- the laws

pub has-image : (m : Motion) (s : ℕ) (w : List ℕ) (q : ℕ) → T (has (image m s w) q) ↔ ((p : ℕ) × (p < m.poses) × T (has s p) × (brings m p w ≡ q))
has-image m s w q = has-gathered m s w m.poses q

pub image-empty : (m : Motion) (s : ℕ) → s < 2 ^ m.poses → image m s [] ≡ s
image-empty m s h =
    sets_ext_T (image m s []) s (λ q t. let r = (has-image m s [] q).0 t in subst (λ (x : ℕ). T (has s x)) r.3 r.2)
    (λ q t. (has-image m s [] q).1 (q, has-below m.poses s q h t, t, refl))

pub image-append : (m : Motion) → Valid m → (s : ℕ) (v w : List ℕ) → T (all_below m.actions v) → image m s (v ++ w) ≡ image m (image m s v) w
image-append m ok s v w t =
    sets_ext_T (image m s (v ++ w)) (image m (image m s v) w)
    (λ q u. let r = (has-image m s (v ++ w) q).0 u in (has-image m (image m s v) w q).1
    (brings m r.0 v, brings_stays m ok r.0 v r.1 t, (has-image m s v (brings m r.0 v)).1 (r.0, r.1, r.2, refl), sym (brings-append m r.0 v w) ∙ r.3))
    (λ q u. let r = (has-image m (image m s v) w q).0 u in let k = (has-image m s v r.0).0 r.2 in (has-image m s (v ++ w) q).1
    (k.0, k.1, k.2, brings-append m k.0 v w ∙ ap (λ (x : ℕ). brings m x w) k.3 ∙ r.3))

pub image_laws : (m : Motion) → Valid m → ImageLaws m
image_laws m v = record {
  members = has-image m;
  stays = image-below m v;
  empty = image-empty m;
  joined = image-append m v;
}

-- ---- the answers

pub imaged_no_pose : (m : Motion) (s : ℕ) (w : List ℕ) → ltb s (2 ^ m.poses) ≡ false → imaged m s w ≡ Err NoPose
imaged_no_pose m s w e =
    cond-false (ltb s (2 ^ m.poses)) (cond (all_below m.actions w) (Ok (image m s w)) (Err NoAction)) (Err NoPose) e

pub imaged_no_action : (m : Motion) (s : ℕ) (w : List ℕ) → ltb s (2 ^ m.poses) ≡ true → all_below m.actions w ≡ false → imaged m s w ≡ Err NoAction
imaged_no_action m s w e f =
    cond-true (ltb s (2 ^ m.poses)) (cond (all_below m.actions w) (Ok (image m s w)) (Err NoAction)) (Err NoPose) e
    ∙ cond-false (all_below m.actions w) (Ok (image m s w)) (Err NoAction) f

pub imaged_ok : (m : Motion) (s : ℕ) (w : List ℕ) → ltb s (2 ^ m.poses) ≡ true → all_below m.actions w ≡ true → imaged m s w ≡ Ok (image m s w)
imaged_ok m s w e f =
    cond-true (ltb s (2 ^ m.poses)) (cond (all_below m.actions w) (Ok (image m s w)) (Err NoAction)) (Err NoPose) e
    ∙ cond-true (all_below m.actions w) (Ok (image m s w)) (Err NoAction) f
