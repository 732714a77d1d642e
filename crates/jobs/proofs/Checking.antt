-- What the checks of actions and lists come to.
use Rattle.std.proofs.Common.{◌≡◌, ℕ, ◌+◌, ◌-◌, ◌*◌, ◌/◌, ◌%◌, ◌^◌, ◌<◌, ◌≤◌, min, Bool, true, false, cond, not, ◌&&◌, T, eqb, ltb, leb, ◌⊎◌, List, length, Some, Ok, Err, Option, Result, sym, refl, ap, ◌∙◌, subst, ap₂, inl, inr, mod-lt, arith, eqb→eq, count_ones}
use lib.Count.{ones}
use Rattle.std.specs.Bool.{then_some}
use Rattle.std.specs.Int.{w32, bit_at, bit_not, is_power_of_two, trailing_zeros}
use Rattle.std.specs.Result.{result_unwrap_or}
use Rattle.std.proofs.lemmas.Nat.{pow_pos, pow_below, div-add-mod', ones_cat, ones_le_self, zero_from_ones}
use Rattle.std.proofs.lemmas.Nat.Bits.{bit_at_and, bit_at_not, bit_at-pow_same, bit_at-pow_other, bit_at-trailing_zeros, bit_at_above, bit_at-lt}
use Rattle.std.proofs.lemmas.Bool.{cases_Bool, cases_eq, cases_lt, and_left, and_right, eq-eqb, ne_eqb, lt-ltb, ltb-true, ltb-false, leb-true, leb-false}
use Rattle.refusals.specs.declared.Refusal.{Refusal}
use Rattle.refusals.specs.declared.Refusal.TheVariants.{NoAction, Barred, NoPlace, PlanTooLong}
use Rattle.feeders.specs.Motion.{Motion}
use Rattle.feeders.specs.Sets.{has, all_below}
use Rattle.feeders.specs.Image.{image, imaged}
use Rattle.feeders.proofs.Images.{imaged_ok}
use Rattle.feeders.proofs.Sets.{T_of_true, true_of_T, not-T_of_false}
use Rattle.graphs.specs.PairRule.{One, size_of}
use Rattle.graphs.proofs.Sizes.{one_bit, size_one}
use Rattle.jobs.specs.Sets.{less, OnlyPose}
use Rattle.plans.specs.Calls.{put}
use Rattle.plans.specs.Calls as store
use Rattle.histories.specs.Rules.{without}
use Rattle.jobs.specs.Checks.{checked}

-- ---- tests that refuse

module _ {X : Type 0} where
  pub passed : (b : Bool) (r : Result X Refusal) (e : Refusal) (x : X) → cond b r (Err e) ≡ Ok x → (b ≡ true) × (r ≡ Ok x)
  passed true r e x p = (refl, p)
  passed false r e x p = absurd (cc)

  pub stopped : (b : Bool) (r : Result X Refusal) (e d : Refusal) → cond b r (Err e) ≡ Err d → ((b ≡ false) × (d ≡ e)) ⊎ ((b ≡ true) × (r ≡ Err d))
  stopped true r e d p = inr (refl, p)
  stopped false r e d p = inl (refl, cc)

-- ---- sets of one pose

-- a number with one bit is 2 ^ p where bit p is that one
single_bit : (s p : ℕ) → bit_at s p ≡ 1 → count_ones s ≡ 1 → s ≡ 2 ^ p
unfolding ones
single_bit s p here one =
    let hi = s / 2 ^ p in
    let lo = s % 2 ^ p in
    let parts : hi * 2 ^ p + lo ≡ s = div-add-mod' s (2 ^ p) in
    let odd : hi / 2 * 2 ^ 1 + 1 ≡ hi = ap (λ (x : ℕ). hi / 2 * 2 + x) (sym here) ∙ div-add-mod' hi 2 in
    let ones-s : count_ones s ≡ count_ones hi + count_ones lo = ap count_ones (sym parts) ∙ ones_cat p hi lo (mod-lt s (pow_pos p)) in
    let ones-hi : count_ones hi ≡ count_ones (hi / 2) + 1 = ap count_ones (sym odd) ∙ ones_cat 1 (hi / 2) 1 (omega arith) in
    let no-lo : lo ≡ 0 = zero_from_ones lo (omega arith) in
    let no-half : hi / 2 ≡ 0 = zero_from_ones (hi / 2) (omega arith) in
    let hi-one : hi ≡ 1 = omega arith in
    sym parts ∙ ap₂ (λ (x y : ℕ). x * 2 ^ p + y) hi-one no-lo ∙ omega arith

bit_ones : (p : ℕ) → count_ones (2 ^ p) ≡ 1
unfolding ones
bit_ones p = ap count_ones (omega arith) ∙ ones_cat p 1 0 (pow_pos p)

pub only_pose_is : (s : ℕ) → s < 2 ^ 32 → OnlyPose s (then_some (is_power_of_two s) (trailing_zeros w32 s))
only_pose_is s l = elim (cases_Bool (is_power_of_two s)) [
  | inl e ↦
      let one : count_ones s ≡ 1 = eqb→eq (count_ones s) 1 (T_of_true (is_power_of_two s) e) in
      let low = bit_at-trailing_zeros w32 s (omega (arith, ones_le_self s)) l in
      subst (λ (b : Bool). OnlyPose s (then_some b (trailing_zeros w32 s))) (sym e) (low.0, single_bit s (trailing_zeros w32 s) low.1 one)
  | inr e ↦ subst (λ (b : Bool). OnlyPose s (then_some b (trailing_zeros w32 s))) (sym e)
      (λ o. let r = (one_bit s l).0 o in not-T_of_false (is_power_of_two s) e (T_of_true (is_power_of_two s) (eq-eqb (count_ones s) 1 (ap count_ones r.2 ∙ bit_ones r.0))))
]

pub only_one : (s p : ℕ) (o : Option ℕ) → o ≡ Some p → OnlyPose s o → One s
only_one s p o e only = let r = subst (OnlyPose s) e only in ap size_of r.1 ∙ size_one p r.0

-- ---- sets without a number

-- of a set of numbers below 32
pub has-less : (s a b : ℕ) → s < 2 ^ 32 → a < 32 → has (less s a) b ≡ (has s b && not (eqb a b))
has-less s a b l h =
    let x = bit_at (bit_not w32 (2 ^ a)) b in
    let both : bit_at (less s a) b ≡ min (bit_at s b) x = bit_at_and s (bit_not w32 (2 ^ a)) b in
    let low = bit_at-lt s b in
    elim (cases_lt b 32) [
      | inr g ↦ let past = bit_at_above s 32 b l g in ne_eqb (bit_at (less s a) b) 1 (λ e. omega arith) ∙ sym (and_left (has s b) (not (eqb a b)) (ne_eqb (bit_at s b) 1 (λ e. omega arith)))
      | inl k ↦ let out : x ≡ 1 - bit_at (2 ^ a) b = bit_at_not w32 (2 ^ a) b (pow_below a 32 h) k in elim (cases_eq a b) [
        | inl e ↦
            let one : bit_at (2 ^ a) b ≡ 1 = ap (bit_at (2 ^ a)) (sym e) ∙ bit_at-pow_same a in
            ne_eqb (bit_at (less s a) b) 1 (λ e. omega arith) ∙ sym (and_right (has s b) (not (eqb a b)) (ap not (eq-eqb a b e)))
        | inr n ↦
            let none = bit_at-pow_other a b (λ e. n (sym e)) in
            let same : bit_at (less s a) b ≡ bit_at s b = omega arith in
            ap (λ (n : ℕ). eqb n 1) same ∙ kept (has s b) (eqb a b) (ne_eqb a b n)
      ]
    ]
  where
    kept : (t u : Bool) → u ≡ false → t ≡ (t && not u)
    kept true u e = sym (ap not e)
    kept false u e = refl

-- ---- what a check says

module _ (m : Motion) (perm a : ℕ) where
  pub checked_ok : (b : ℕ) → checked m perm a ≡ Ok b → (a < m.actions) × T (has perm a) × (b ≡ a)
  checked_ok b p =
      let known = passed (ltb a m.actions) (cond (has perm a) (Ok a) (Err Barred)) NoAction b p in
      let free = passed (has perm a) (Ok a) Barred b known.1 in
      (ltb-true a m.actions known.0, T_of_true (has perm a) free.0, cc)

  pub checked_err : (e : Refusal) → checked m perm a ≡ Err e → ((m.actions ≤ a) × (e ≡ NoAction)) ⊎ ((a < m.actions) × (T (has perm a) → ⊥) × (e ≡ Barred))
  checked_err e p =
      elim (stopped (ltb a m.actions) (cond (has perm a) (Ok a) (Err Barred)) NoAction e p) [
        | inl r ↦ inl (ltb-false a m.actions r.0, r.1)
        | inr r ↦ elim (stopped (has perm a) (Ok a) Barred e r.1) [
          | inl s ↦ inr (ltb-true a m.actions r.0, not-T_of_false (has perm a) s.0, s.1)
          | inr s ↦ absurd (cc)
        ]
      ]

-- ---- what the plan store answers

pub stored_ok : (xs ys : List ℕ) → put xs ≡ Ok ys → (ys ≡ xs) × (length xs ≤ 16384)
stored_ok xs ys p = let r = passed (leb (length xs) 16384) (Ok xs) PlanTooLong ys p in (cc, leb-true (length xs) 16384 r.0)

pub stored_err : (xs : List ℕ) (e : Refusal) → put xs ≡ Err e → (e ≡ PlanTooLong) × (16384 < length xs)
stored_err xs e p = elim (stopped (leb (length xs) 16384) (Ok xs) PlanTooLong e p) [
  | inl r ↦ (r.1, leb-false (length xs) 16384 r.0)
  | inr r ↦ absurd (cc)
]

pub removed_ok : (xs ys : List ℕ) (n : ℕ) → store.without xs n ≡ Ok ys → (ys ≡ without xs n) × (n < length xs)
removed_ok xs ys n p = let r = passed (ltb n (length xs)) (Ok (without xs n)) NoPlace ys p in (cc, ltb-true n (length xs) r.0)

pub removed_err : (xs : List ℕ) (n : ℕ) (e : Refusal) → store.without xs n ≡ Err e → (e ≡ NoPlace) × (length xs ≤ n)
removed_err xs n e p = elim (stopped (ltb n (length xs)) (Ok (without xs n)) NoPlace e p) [
  | inl r ↦ (r.1, ltb-false n (length xs) r.0)
  | inr r ↦ absurd (cc)
]

-- ---- where a list brings a set

pub brought_image : (m : Motion) (s : ℕ) (w : List ℕ) → s < 2 ^ m.poses → T (all_below m.actions w) → result_unwrap_or (imaged m s w) 0 ≡ image m s w
brought_image m s w l t =
    ap (λ (r : Result ℕ Refusal). result_unwrap_or r 0) (imaged_ok m s w (lt-ltb s (2 ^ m.poses) l) (true_of_T (all_below m.actions w) t))
