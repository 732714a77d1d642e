-- How many poses a set has, and what becomes of that number under a list of actions.
use Rattle.std.proofs.Common.{◌≡◌, ℕ, zero, suc, ◌-◌, ◌^◌, ◌<◌, ◌≤◌, true, false, T, ◌↔◌, List, [], ◌∷◌, sym, refl, ap, ◌∙◌, subst, inl, inr, le_trans, lt_of_lt_of_le, le_of_eq, arith}
use Rattle.std.specs.Int.{bit_at}
use Rattle.std.proofs.lemmas.Nat.{pow_pos}
use Rattle.std.proofs.lemmas.Nat.Bits.{bit_at_ones}
use Rattle.std.proofs.lemmas.Bool.{cases_Bool, cases_lt, cases_order, cond_both, cond-true, cond-false, eq-eqb}
use Rattle.feeders.specs.Motion.{Motion, Valid, brings}
use Rattle.feeders.specs.Sets.{has, with, all_below}
use Rattle.feeders.specs.Image.{gathered, image}
use Rattle.feeders.proofs.Sets.{T_eq, T_of_true, true_of_T, has-zero, T-has-with, T-has_one, has-below, sets_ext_T, all_below_cons}
use Rattle.feeders.proofs.Images.{brings_stays, has-gathered, has-image}
use Rattle.graphs.specs.Distance.{AllUsable}
use Rattle.graphs.specs.Pairs.{pair_graph}
use Rattle.graphs.specs.PairRule.{members, size_of, One, every}

-- ---- the members below n

-- one number more
pub members-has : (n s : ℕ) → T (has s n) → members (suc n) s ≡ suc (members n s)
members-has n s t = cond-true (has s n) (suc (members n s)) (members n s) (true_of_T (has s n) t)

pub members_lacks : (n s : ℕ) → has s n ≡ false → members (suc n) s ≡ members n s
members_lacks n s e = cond-false (has s n) (suc (members n s)) (members n s) e

members_more : (n s : ℕ) → (members n s ≤ members (suc n) s) × (members (suc n) s ≤ suc (members n s))
members_more n s =
    cond_both (has s n) (suc (members n s)) (members n s) (λ x. (members n s ≤ x) × (x ≤ suc (members n s))) (λ _. (omega arith, omega arith)) (λ _. (omega arith, omega arith))

pub members_mono : (k n s : ℕ) → k ≤ n → members k s ≤ members n s
members_mono k zero s h = let e : k ≡ 0 = omega arith in subst (λ (x : ℕ). members x s ≤ 0) (sym e) (omega arith)
members_mono k (suc n) s h =
    elim (cases_lt k (suc n)) [
      | inl l ↦ omega (arith, members_mono k n s (omega arith), (members_more n s).0)
      | inr g ↦ let e : k ≡ suc n = omega arith in subst (λ (x : ℕ). members k s ≤ members x s) e (omega arith)
    ]

pub members_same : (n s t : ℕ) → ((p : ℕ) → p < n → has s p ≡ has t p) → members n s ≡ members n t
members_same zero s t h = refl
members_same (suc n) s t h =
    let k = members_same n s t (λ p l. h p (omega arith)) in
    elim (cases_Bool (has t n)) [
      | inl e ↦ members-has n s (T_of_true (has s n) (h n (omega arith) ∙ e)) ∙ ap suc k ∙ sym (members-has n t (T_of_true (has t n) e))
      | inr e ↦ members_lacks n s (h n (omega arith) ∙ e) ∙ k ∙ sym (members_lacks n t e)
    ]

pub members-zero : (n : ℕ) → members n 0 ≡ 0
members-zero zero = refl
members-zero (suc n) = members_lacks n 0 (has-zero n) ∙ members-zero n

-- a member makes one
pub members_some : (n s p : ℕ) → p < n → T (has s p) → 1 ≤ members n s
members_some n s p l t = omega (arith, members_mono (suc p) n s l, members-has p s t)

pub some_member : (n s : ℕ) → 1 ≤ members n s → (p : ℕ) × (p < n) × T (has s p)
some_member zero s h = let z : ⊥ = omega arith in absurd z
some_member (suc n) s h =
    elim (cases_Bool (has s n)) [
      | inl e ↦ (n, omega arith, T_of_true (has s n) e)
      | inr e ↦ let r = some_member n s (omega (arith, members_lacks n s e)) in (r.0, omega (arith, r.1), r.2)
    ]

-- two members make two
pub members_two : (n s p q : ℕ) → p < q → q < n → T (has s p) → T (has s q) → 2 ≤ members n s
members_two n s p q h l t u =
    omega (arith, members_mono (suc q) n s l, members-has q s u, members_some q s p h t)

pub two_members : (n s : ℕ) → 2 ≤ members n s → (p : ℕ) × (q : ℕ) × (p < q) × (q < n) × T (has s p) × T (has s q)
two_members zero s h = let z : ⊥ = omega arith in absurd z
two_members (suc n) s h =
    elim (cases_Bool (has s n)) [
      | inl e ↦ let r = some_member n s (omega (arith, members-has n s (T_of_true (has s n) e))) in (r.0, n, r.1, omega arith, r.2, T_of_true (has s n) e)
      | inr e ↦ let r = two_members n s (omega (arith, members_lacks n s e)) in (r.0, r.1, r.2, omega (arith, r.3), r.4, r.5)
    ]

-- a set of one member has no two
pub only_member : (n s p q : ℕ) → members n s ≡ 1 → p < n → q < n → T (has s p) → T (has s q) → p ≡ q
only_member n s p q h hp hq t u =
    elim (cases_order p q) [
      | inl e ↦ e
      | inr o ↦ elim o [
        | inl l ↦ let z : ⊥ = omega (arith, members_two n s p q l hq t u) in absurd z
        | inr g ↦ let z : ⊥ = omega (arith, members_two n s q p g hp u t) in absurd z
      ]
    ]

pub members_one : (n p : ℕ) → p < n → members n (2 ^ p) ≡ 1
members_one n p h =
    elim (cases_lt 1 (members n (2 ^ p))) [
      | inl l ↦ let r = two_members n (2 ^ p) l in let z : ⊥ = omega (arith, r.2, (T-has_one p r.0).0 r.4, (T-has_one p r.1).0 r.5) in absurd z
      | inr g ↦ omega (arith, members_some n (2 ^ p) p h ((T-has_one p p).1 refl))
    ]

-- ---- one member more

has_other : (s q p : ℕ) → (p ≡ q → ⊥) → has (with s q) p ≡ has s p
has_other s q p n = T_eq (has (with s q) p) (has s p) (λ t. elim ((T-has-with s q p).0 t) [ inl x ↦ x | inr e ↦ absurd (n e) ]) (λ t. (T-has-with s q p).1 (inl t))

pub members-with : (n s q : ℕ) → members n (with s q) ≤ suc (members n s)
members-with zero s q = omega arith
members-with (suc n) s q =
    elim (cases_order n q) [
      | inl e ↦ omega (arith, (members_more n (with s q)).1, members_same n (with s q) s (λ p l. has_other s q p (λ x. omega arith)), (members_more n s).0)
      | inr o ↦
          let other : n ≡ q → ⊥ = λ x. elim o [ inl l ↦ omega arith | inr g ↦ omega arith ] in
          elim (cases_Bool (has s n)) [
            | inl e ↦ omega (arith, members-with n s q, members-has n s (T_of_true (has s n) e), members-has n (with s q) (T_of_true (has (with s q) n) (has_other s q n other ∙ e)))
            | inr e ↦ omega (arith, members-with n s q, members_lacks n s e, members_lacks n (with s q) (has_other s q n other ∙ e))
          ]
    ]

pub with_member : (s q : ℕ) → T (has s q) → with s q ≡ s
with_member s q t =
    sets_ext_T (with s q) s (λ p u. elim ((T-has-with s q p).0 u) [ inl x ↦ x | inr e ↦ subst (λ (x : ℕ). T (has s x)) (sym e) t ])
    (λ p u. (T-has-with s q p).1 (inl u))

-- ---- the poses gathered

-- each member of the source adds at most one
pub gathered-size : (m : Motion) (s : ℕ) (w : List ℕ) (n k : ℕ) → members n (gathered m s w k) ≤ members k s
gathered-size m s w n zero = omega (arith, members-zero n)
gathered-size m s w n (suc k) =
    elim (cases_Bool (has s k)) [
      | inl e ↦ subst (λ (x : ℕ). members n x ≤ members (suc k) s) (sym (cond-true (has s k) (with (gathered m s w k) (brings m k w)) (gathered m s w k) e))
          (omega (arith, gathered-size m s w n k, members-with n (gathered m s w k) (brings m k w), members-has k s (T_of_true (has s k) e)))
      | inr e ↦ subst (λ (x : ℕ). members n x ≤ members (suc k) s) (sym (cond-false (has s k) (with (gathered m s w k) (brings m k w)) (gathered m s w k) e))
          (omega (arith, gathered-size m s w n k, members_lacks k s e))
    ]

-- and none where it meets an earlier one
pub gathered_shrinks : (m : Motion) (s : ℕ) (w : List ℕ) (n k p q : ℕ) → p < q → q < k → T (has s p) → T (has s q) → brings m p w ≡ brings m q w → members n (gathered m s w k) < members k s
gathered_shrinks m s w n zero p q h l t u b = let z : ⊥ = omega arith in absurd z
gathered_shrinks m s w n (suc k) p q h l t u b =
    elim (cases_lt q k) [
      | inl f ↦ elim (cases_Bool (has s k)) [
        | inl e ↦ subst (λ (x : ℕ). members n x < members (suc k) s) (sym (cond-true (has s k) (with (gathered m s w k) (brings m k w)) (gathered m s w k) e))
            (omega (arith, gathered_shrinks m s w n k p q h f t u b, members-with n (gathered m s w k) (brings m k w), members-has k s (T_of_true (has s k) e)))
        | inr e ↦ subst (λ (x : ℕ). members n x < members (suc k) s) (sym (cond-false (has s k) (with (gathered m s w k) (brings m k w)) (gathered m s w k) e))
            (omega (arith, gathered_shrinks m s w n k p q h f t u b, members_lacks k s e))
      ]
      | inr g ↦
          let e : q ≡ k = omega arith in
          let here : T (has s k) = subst (λ (x : ℕ). T (has s x)) e u in
          let known : T (has (gathered m s w k) (brings m k w)) = (has-gathered m s w k (brings m k w)).1 (p, omega arith, t, b ∙ ap (λ (x : ℕ). brings m x w) e) in
          subst (λ (x : ℕ). members n x < members (suc k) s)
          (sym (cond-true (has s k) (with (gathered m s w k) (brings m k w)) (gathered m s w k) (true_of_T (has s k) here) ∙ with_member (gathered m s w k) (brings m k w) known))
          (omega (arith, gathered-size m s w n k, members-has k s here))
    ]

-- ---- the size of a set

-- `omega` computes a size of 32 steps to no end, so the facts about sizes are cited from lemmas on any n.
pub size_one : (p : ℕ) → p < 32 → size_of (2 ^ p) ≡ 1
size_one p h = members_one 32 p h

pub size_some : (s p : ℕ) → p < 32 → T (has s p) → 1 ≤ size_of s
size_some s p h t = members_some 32 s p h t

pub some_in : (s : ℕ) → 1 ≤ size_of s → (p : ℕ) × (p < 32) × T (has s p)
some_in s h = some_member 32 s h

pub size_two : (s p q : ℕ) → p < q → q < 32 → T (has s p) → T (has s q) → 2 ≤ size_of s
size_two s p q h k t u = members_two 32 s p q h k t u

pub two_in : (s : ℕ) → 2 ≤ size_of s → (p : ℕ) × (q : ℕ) × (p < q) × (q < 32) × T (has s p) × T (has s q)
two_in s h = two_members 32 s h

pub one_in : (s p q : ℕ) → One s → p < 32 → q < 32 → T (has s p) → T (has s q) → p ≡ q
one_in s p q h hp hq t u = only_member 32 s p q h hp hq t u

-- a set has one pose exactly when it is the bit of some pose
pub one_bit : (s : ℕ) → s < 2 ^ 32 → One s ↔ ((p : ℕ) × (p < 32) × (s ≡ 2 ^ p))
one_bit s h = (
  λ o. let r = some_in s (le_of_eq (sym o)) in (r.0, r.1, bit o r.0 r.1 r.2),
  λ r. ap size_of r.2 ∙ size_one r.0 r.1,
)
  where
    bit : One s → (p : ℕ) → p < 32 → T (has s p) → s ≡ 2 ^ p
    bit o p l t =
        sets_ext_T s (2 ^ p) (λ q u. (T-has_one p q).1 (one_in s q p o (has-below 32 s q h u) l u t))
        (λ q u. subst (λ (x : ℕ). T (has s x)) (sym ((T-has_one p q).0 u)) t)

-- ---- the size of an image

pub image-size : (m : Motion) → Valid m → (s : ℕ) (w : List ℕ) → size_of (image m s w) ≤ size_of s
image-size m v s w = le_trans (gathered-size m s w 32 m.poses) (members_mono m.poses 32 s v.few_poses)

pub image_shrinks : (m : Motion) → Valid m → (s : ℕ) (w : List ℕ) (p q : ℕ) → p < q → q < m.poses → T (has s p) → T (has s q) → brings m p w ≡ brings m q w → size_of (image m s w) < size_of s
image_shrinks m v s w p q h l t u b =
    lt_of_lt_of_le (gathered_shrinks m s w 32 m.poses p q h l t u b) (members_mono m.poses 32 s v.few_poses)

pub image_member : (m : Motion) (s : ℕ) (w : List ℕ) (p : ℕ) → p < m.poses → T (has s p) → T (has (image m s w) (brings m p w))
image_member m s w p h t = (has-image m s w (brings m p w)).1 (p, h, t, refl)

-- the image of a set that is not empty is not empty
pub image_some : (m : Motion) → Valid m → (s : ℕ) (w : List ℕ) → s < 2 ^ m.poses → T (all_below m.actions w) → 1 ≤ size_of s → 1 ≤ size_of (image m s w)
image_some m v s w h t k =
    let r = some_in s k in
    let l = has-below m.poses s r.0 h r.2 in
    size_some (image m s w) (brings m r.0 w) (lt_of_lt_of_le (brings_stays m v r.0 w l t) v.few_poses) (image_member m s w r.0 l r.2)

-- ---- all poses

has_ones : (n p : ℕ) → p < n → has (2 ^ n - 1) p ≡ true
has_ones n p h = eq-eqb (bit_at (2 ^ n - 1) p) 1 (bit_at_ones n p h)

pub every-below : (m : Motion) → every m < 2 ^ m.poses
every-below m = omega (arith, pow_pos m.poses)

pub has-every : (m : Motion) (p : ℕ) → T (has (every m) p) ↔ (p < m.poses)
has-every m p = (has-below m.poses (every m) p (every-below m), λ h. T_of_true (has (every m) p) (has_ones m.poses p h))

-- ---- lists

pub usable_below : (m : Motion) (perm : ℕ) (w : List ℕ) → AllUsable (pair_graph m) perm w → T (all_below m.actions w)
usable_below m perm [] u = tt
usable_below m perm (a ∷ w) u = (all_below_cons m.actions a w).1 (u.0.0, usable_below m perm w u.1)
