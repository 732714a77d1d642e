-- What belongs to a set that is written as a number, and when two such sets are equal.
use Rattle.std.proofs.Common.{◌≡◌, ℕ, max, zero, suc, ◌-◌, ◌/◌, ◌^◌, ◌<◌, ◌≤◌, Bool, true, false, ◌||◌, T, eqb, ltb, leb, nat_lt, ◌&&◌, rules, ◌⊎◌, ◌↔◌, List, [], ◌∷◌, ◌++◌, length, get_or, sym, refl, ap, ◌∙◌, subst, inl, inr, lt_of_lt_of_le, pow-suc, arith, eqb→eq, ltb→lt, lt→ltb, pow_mono}
use native.Mathlib.Nat.{div-eq_of_lt}
use lib.Bits.{bit_or}
use Rattle.std.specs.Int.{bit_at}
use Rattle.std.specs.List.{list_all}
use Rattle.std.proofs.lemmas.Nat.{pow_pos, pow_below, or_lt, le-div}
use Rattle.std.proofs.lemmas.Nat.Bits.{bit_at-suc, bit_at-zero, bit_at_or, bit_at-pow_same, bit_at-pow_other, bit_at-lt, same_from_bits, bit_at_above}
use Rattle.std.proofs.lemmas.Bool.Decides.{nat_tests}
use Rattle.std.proofs.lemmas.Bool.{cases_eq, cases_lt, eq-eqb, ne_eqb, lt-ltb, le-ltb}
use Rattle.feeders.specs.Sets.{has, with, all_below}

-- ---- tests

pub T_eq : (a b : Bool) → (T a → T b) → (T b → T a) → a ≡ b
T_eq true true f g = refl
T_eq true false f g = absurd (f tt)
T_eq false true f g = absurd (g tt)
T_eq false false f g = refl

pub T_of_true : (b : Bool) → b ≡ true → T b
T_of_true b e = subst T (sym e) tt

pub true_of_T : (b : Bool) → T b → b ≡ true
true_of_T true t = refl
true_of_T false t = absurd t

pub not-T_of_false : (b : Bool) → b ≡ false → T b → ⊥
not-T_of_false b e t = subst T e t

pub T-or : (a b : Bool) → T (a || b) ↔ (T a ⊎ T b)
T-or true b = (λ t. inl tt, λ h. tt)
T-or false b = (λ t. inr t, λ h. elim h [ inl x ↦ absurd x | inr y ↦ y ])

-- ---- the digits of a number

digit_or : (x y : ℕ) → x < 2 → y < 2 → eqb (max x y) 1 ≡ (eqb x 1 || eqb y 1)
digit_or x y hx hy = grind (arith, nat_tests)

pub has-or : (s t p : ℕ) → has (bit_or s t) p ≡ (has s p || has t p)
has-or s t p =
    ap (λ (x : ℕ). eqb x 1) (bit_at_or s t p)
    ∙ digit_or (bit_at s p) (bit_at t p) (bit_at-lt s p) (bit_at-lt t p)

pub has-zero : (p : ℕ) → has 0 p ≡ false
has-zero p = ap (λ (x : ℕ). eqb x 1) (bit_at-zero p)

-- past the digits of s there is nothing
pub has_past : (s p : ℕ) → s < 2 ^ p → has s p ≡ false
has_past s p h = ap (λ (x : ℕ). eqb x 1) (bit_at_above s p p h (omega arith))

pub has_one : (q p : ℕ) → has (2 ^ q) p ≡ eqb p q
has_one q p =
    elim (cases_eq p q) [
      | inl e ↦ subst (λ (x : ℕ). has (2 ^ q) x ≡ eqb x q) (sym e) (ap (λ (x : ℕ). eqb x 1) (bit_at-pow_same q) ∙ sym (eq-eqb q q refl))
      | inr n ↦ ap (λ (x : ℕ). eqb x 1) (bit_at-pow_other q p n) ∙ sym (ne_eqb p q n)
    ]

pub has-with : (s q p : ℕ) → has (with s q) p ≡ (has s p || eqb p q)
has-with s q p = has-or s (2 ^ q) p ∙ ap (λ (b : Bool). has s p || b) (has_one q p)

-- the members of a set with one more
pub T-has-with : (s q p : ℕ) → T (has (with s q) p) ↔ (T (has s p) ⊎ (p ≡ q))
T-has-with s q p = (
  λ t. elim ((T-or (has s p) (eqb p q)).0 (subst T (has-with s q p) t)) [ inl x ↦ inl x | inr y ↦ inr (eqb→eq p q y) ],
  λ h. subst T (sym (has-with s q p)) ((T-or (has s p) (eqb p q)).1 (elim h [ inl x ↦ inl x | inr e ↦ inr (T_of_true (eqb p q) (eq-eqb p q e)) ])),
)

pub T-has_one : (q p : ℕ) → T (has (2 ^ q) p) ↔ (p ≡ q)
T-has_one q p = (λ t. eqb→eq p q (subst T (has_one q p) t), λ e. subst T (sym (has_one q p)) (T_of_true (eqb p q) (eq-eqb p q e)))

pub not-has-zero : (p : ℕ) → T (has 0 p) → ⊥
not-has-zero p t = not-T_of_false (has 0 p) (has-zero p) t

pub has-below : (n s p : ℕ) → s < 2 ^ n → T (has s p) → p < n
has-below n s p h t =
    elim (cases_lt p n) [
      | inl l ↦ l
      | inr g ↦ absurd (not-T_of_false (has s p) (has_past s p (lt_of_lt_of_le h (pow_mono g))) t)
    ]

pub with-below : (n s q : ℕ) → s < 2 ^ n → q < n → with s q < 2 ^ n
with-below n s q h k = or_lt n s (2 ^ q) h (pow_below q n k)

-- the shift by which code sees whether a set is below 2 ^ n
pub eqb-shr-zero : (s n : ℕ) → eqb (s / 2 ^ n) 0 ≡ ltb s (2 ^ n)
eqb-shr-zero s n =
    elim (cases_lt s (2 ^ n)) [
      | inl l ↦ eq-eqb (s / 2 ^ n) 0 (div-eq_of_lt l) ∙ sym (lt-ltb s (2 ^ n) l)
      | inr g ↦ ne_eqb (s / 2 ^ n) 0 (λ z. omega (arith, le-div 1 s (2 ^ n) (pow_pos n) (omega arith))) ∙ sym (le-ltb s (2 ^ n) g)
    ]

-- ---- sets with the same members are equal

same_digit : (x y : ℕ) → x < 2 → y < 2 → eqb x 1 ≡ eqb y 1 → x ≡ y
same_digit x y hx hy e = grind (arith, nat_tests)

pub sets_ext : (s t : ℕ) → ((p : ℕ) → has s p ≡ has t p) → s ≡ t
sets_ext s t h =
    same_from_bits s t (λ p. same_digit (bit_at s p) (bit_at t p) (bit_at-lt s p) (bit_at-lt t p) (h p))

pub sets_ext_T : (s t : ℕ) → ((p : ℕ) → T (has s p) → T (has t p)) → ((p : ℕ) → T (has t p) → T (has s p)) → s ≡ t
sets_ext_T s t f g = sets_ext s t (λ p. T_eq (has s p) (has t p) (f p) (g p))

-- a set whose members are all below n is below 2 ^ n
pub below-has : (n s : ℕ) → ((p : ℕ) → T (has s p) → p < n) → s < 2 ^ n
below-has zero s h =
    let e : s ≡ 0 = sets_ext_T s 0 (λ p t. let z : ⊥ = omega (arith, h p t) in absurd z) (λ p t. absurd (not-has-zero p t)) in
    omega arith
below-has (suc n) s h =
    let k : s / 2 < 2 ^ n = below-has n (s / 2) (λ p t. omega (arith, h (suc p) (subst (λ (x : ℕ). T (eqb x 1)) (sym (bit_at-suc s p)) t))) in
    omega (arith, pow-suc 2 n)

-- ---- lists of entries below k

pub both : (b c : Bool) → T (elim b [ true ↦ c | false ↦ false ]) → T b × T c
both true c t = (tt, t)
both false c t = absurd t

pub from_both : (b c : Bool) → T b → T c → T (elim b [ true ↦ c | false ↦ false ])
from_both true c t u = u
from_both false c t u = absurd t

pub all_below_cons : (k a : ℕ) (w : List ℕ) → T (all_below k (a ∷ w)) ↔ ((a < k) × T (all_below k w))
all_below_cons k a w = (
  λ t. let b = both (ltb a k) (all_below k w) t in (ltb→lt a k b.0, b.1),
  λ h. from_both (ltb a k) (all_below k w) (lt→ltb a k h.0) h.1,
)

pub all_below-append : (k : ℕ) (v w : List ℕ) → T (all_below k (v ++ w)) ↔ (T (all_below k v) × T (all_below k w))
all_below-append k [] w = (λ t. (tt, t), λ h. h.1)
all_below-append k (a ∷ v) w = (
  λ t. let c = (all_below_cons k a (v ++ w)).0 t in let r = (all_below-append k v w).0 c.1 in ((all_below_cons k a v).1 (c.0, r.0), r.1),
  λ h. let c = (all_below_cons k a v).0 h.0 in (all_below_cons k a (v ++ w)).1 (c.0, (all_below-append k v w).1 (c.1, h.1)),
)

entries_below : (k : ℕ) (w : List ℕ) → T (all_below k w) → (i : ℕ) → i < length w → get_or w i 0 < k
entries_below k [] t i h = let z : ⊥ = omega arith in absurd z
entries_below k (a ∷ w) t zero h = ((all_below_cons k a w).0 t).0
entries_below k (a ∷ w) t (suc i) h = entries_below k w ((all_below_cons k a w).0 t).1 i (omega arith)

below_entries : (k : ℕ) (w : List ℕ) → ((i : ℕ) → i < length w → get_or w i 0 < k) → T (all_below k w)
below_entries k [] h = tt
below_entries k (a ∷ w) h =
    (all_below_cons k a w).1 (h 0 (omega arith), below_entries k w (λ i l. h (suc i) (omega arith)))

pub all_below-get_or : (k : ℕ) (w : List ℕ) → T (all_below k w) ↔ ((i : ℕ) → i < length w → get_or w i 0 < k)
all_below-get_or k w = (entries_below k w, below_entries k w)

pub all_below_true : (k : ℕ) (w : List ℕ) → ((i : ℕ) → i < length w → get_or w i 0 < k) → all_below k w ≡ true
all_below_true k w h = true_of_T (all_below k w) (below_entries k w h)

pub all_below_false : (k : ℕ) (w : List ℕ) (i : ℕ) → i < length w → k ≤ get_or w i 0 → all_below k w ≡ false
all_below_false k w i l h = T_eq (all_below k w) false (λ t. let z : ⊥ = omega (arith, entries_below k w t i l) in z) absurd

pub all_below_one : (k a : ℕ) → T (all_below k (a ∷ [])) ↔ (a < k)
all_below_one k a = (λ t. ((all_below_cons k a []).0 t).0, λ h. (all_below_cons k a []).1 (h, tt))

pub all_below_mono : (j k : ℕ) (w : List ℕ) → j ≤ k → T (all_below j w) → T (all_below k w)
all_below_mono j k [] h t = tt
all_below_mono j k (a ∷ w) h t =
    let c = (all_below_cons j a w).0 t in (all_below_cons k a w).1 (omega (arith, c.0), all_below_mono j k w h c.1)

and_by : (b c : Bool) → (b && c) ≡ elim b [ true ↦ c | false ↦ false ]
and_by true c = refl
and_by false c = refl

-- the library's way to say that all entries are below k
pub list_all_below : (k : ℕ) (w : List ℕ) → list_all (λ a. nat_lt a k) w ≡ all_below k w
list_all_below k [] = refl
list_all_below k (a ∷ w) = ap (λ (b : Bool). nat_lt a k && b) (list_all_below k w) ∙ and_by (nat_lt a k) (all_below k w)

-- a number is not above the greatest below 2 ^ n exactly when it is below 2 ^ n
pub leb-every : (s n : ℕ) → leb s (2 ^ n - 1) ≡ ltb s (2 ^ n)
leb-every s n = elim (cases_lt s (2 ^ n)) [
  | inl l ↦ search (rules)
  | inr g ↦ let p = pow_pos n in search (rules)
]
