-- Numbers in decimal digits, read from the left.
use Rattle.std.proofs.Common.{◌≡◌, ℕ, suc, ◌+◌, ◌-◌, ◌*◌, ◌^◌, ◌<◌, ◌≤◌, true, false, cond, leb, ◌⊎◌, ◌↔◌, List, [], ◌∷◌, length, get_or, drop, Some, None, sym, ap, ◌∙◌, inl, inr, mul_assoc, add-mul, pow-suc, zero-mul, add-one, arith}
use Rattle.std.proofs.lemmas.List.{at_drop_more, at_drop_all}
use Rattle.std.proofs.lemmas.Bool.{cases_Bool, cases_lt, and_parts, and_from, cond-true, cond-false, leb-true, le-leb, lt-leb}
use Rattle.std.proofs.lemmas.Option.{none-some, same_Some}
use Rattle.std.specs.Char.{is_ascii_digit}
use Rattle.scripts.specs.Requests.{AreDigits, value_of}
use Rattle.scripts.specs.Reading.{read_on, number_in}

-- ---- one digit more, as the code reads them

module _ (n : ℕ) (ds : List ℕ) (i : ℕ) (within : i < length ds) where
  step : read_on n (drop i ds) ≡ cond (is_ascii_digit (get_or ds i 0)) (read_on (10 * n + (get_or ds i 0 - 48)) (drop (i + 1) ds)) None
  unfolding read_on
  step = at_drop_more (read_on n) ds i 0 within

  pub read_on_more : is_ascii_digit (get_or ds i 0) ≡ true → read_on (10 * n + (get_or ds i 0 - 48)) (drop (i + 1) ds) ≡ read_on n (drop i ds)
  read_on_more e = sym (step ∙ cond-true (is_ascii_digit (get_or ds i 0)) (read_on (10 * n + (get_or ds i 0 - 48)) (drop (i + 1) ds)) None e)

  pub read_on-none : is_ascii_digit (get_or ds i 0) ≡ false → read_on n (drop i ds) ≡ None
  read_on-none e = step ∙ cond-false (is_ascii_digit (get_or ds i 0)) (read_on (10 * n + (get_or ds i 0 - 48)) (drop (i + 1) ds)) None e

pub read_on_all : (n : ℕ) (ds : List ℕ) (i : ℕ) → length ds ≤ i → read_on n (drop i ds) ≡ Some n
unfolding read_on
read_on_all n ds i h = at_drop_all (read_on n) ds i h

-- a number of i digits, and one digit more
pub number_more : (n d i : ℕ) → n < 10 ^ i → d ≤ 57 → 10 * n + (d - 48) < 10 ^ (i + 1)
number_more n d i h k = omega (arith, ap (λ (j : ℕ). 10 ^ j) (add-one i) ∙ pow-suc 10 i)

-- ---- one to five digits

pub number_in-fits : (ds : List ℕ) → 1 ≤ length ds → length ds ≤ 5 → number_in ds ≡ read_on 0 ds
unfolding number_in
number_in-fits ds h k =
    cond-true (leb 1 (length ds)) (cond (leb (length ds) 5) (read_on 0 ds) None) None (le-leb 1 (length ds) h)
    ∙ cond-true (leb (length ds) 5) (read_on 0 ds) None (le-leb (length ds) 5 k)

pub number_in_past : (ds : List ℕ) → (length ds ≡ 0) ⊎ (5 < length ds) → number_in ds ≡ None
unfolding number_in
number_in_past ds (inl h) =
    cond-false (leb 1 (length ds)) (cond (leb (length ds) 5) (read_on 0 ds) None) None (lt-leb 1 (length ds) (omega arith))
number_in_past ds (inr h) =
    cond-true (leb 1 (length ds)) (cond (leb (length ds) 5) (read_on 0 ds) None) None (le-leb 1 (length ds) (omega arith))
    ∙ cond-false (leb (length ds) 5) (read_on 0 ds) None (lt-leb (length ds) 5 h)

-- ---- what the digits write

ascii_digit_true : (d : ℕ) → is_ascii_digit d ≡ true → (48 ≤ d) × (d ≤ 57)
ascii_digit_true d e =
    let b = and_parts (leb 48 d) (leb d 57) e in (leb-true 48 d b.0, leb-true d 57 b.1)

true_ascii_digit : (d : ℕ) → 48 ≤ d → d ≤ 57 → is_ascii_digit d ≡ true
true_ascii_digit d h k = and_from (leb 48 d) (leb d 57) (le-leb 48 d h) (le-leb d 57 k)

-- the weights, after one digit more
weights : (k e p v : ℕ) → (10 * k + e) * p + v ≡ k * (p * 10) + (e * p + v)
weights k e p v = omega (arith, add-mul (10 * k) e p, mul_assoc 10 k p, mul_assoc k p 10)

read_on_digits : (k : ℕ) (ds : List ℕ) → AreDigits ds → read_on k ds ≡ Some (k * 10 ^ length ds + value_of ds)
unfolding read_on
read_on_digits k [] a = let e : k ≡ k * 1 + 0 = omega arith in ap Some e
read_on_digits k (d ∷ ds) a =
    let p = 10 ^ length ds in
    let e : (10 * k + (d - 48)) * p + value_of ds ≡ k * 10 ^ suc (length ds) + ((d - 48) * p + value_of ds) =
    weights k (d - 48) p (value_of ds) ∙ ap (λ (q : ℕ). k * q + ((d - 48) * p + value_of ds)) (sym (pow-suc 10 (length ds))) in
    cond-true (is_ascii_digit d) (read_on (10 * k + (d - 48)) ds) None (true_ascii_digit d a.0 a.1)
    ∙ read_on_digits (10 * k + (d - 48)) ds a.2 ∙ ap Some e

digits_read_on : (k : ℕ) (ds : List ℕ) (n : ℕ) → read_on k ds ≡ Some n → AreDigits ds
unfolding read_on
digits_read_on k [] n h = tt
digits_read_on k (d ∷ ds) n h =
    let more = read_on (10 * k + (d - 48)) ds in
    elim (cases_Bool (is_ascii_digit d)) [
      | inl e ↦
          let a = ascii_digit_true d e in
          (a.0, a.1, digits_read_on (10 * k + (d - 48)) ds n (sym (cond-true (is_ascii_digit d) more None e) ∙ h))
      | inr e ↦ absurd (none-some n (sym (cond-false (is_ascii_digit d) more None e) ∙ h))
    ]

number_in-within : (ds : List ℕ) (n : ℕ) → number_in ds ≡ Some n → (1 ≤ length ds) × (length ds ≤ 5)
number_in-within ds n h =
    elim (cases_lt 0 (length ds)) [
      | inr g ↦ absurd (none-some n (sym (number_in_past ds (inl (omega arith))) ∙ h))
      | inl l ↦ elim (cases_lt 5 (length ds)) [
        | inl g ↦ absurd (none-some n (sym (number_in_past ds (inr g)) ∙ h))
        | inr k ↦ (omega arith, k)
      ]
    ]

-- the number that is read is the one that the digits write
pub number_in_digits : (ds : List ℕ) (n : ℕ) → (number_in ds ≡ Some n) ↔ ((1 ≤ length ds) × (length ds ≤ 5) × AreDigits ds × (value_of ds ≡ n))
number_in_digits ds n = (
  λ h.
      let w = number_in-within ds n h in
      let read = sym (number_in-fits ds w.0 w.1) ∙ h in
      let a = digits_read_on 0 ds n read in
      let e : 0 * 10 ^ length ds + value_of ds ≡ n = same_Some (0 * 10 ^ length ds + value_of ds) n (sym (read_on_digits 0 ds a) ∙ read) in
      (w.0, w.1, a, omega (arith, e, zero-mul (10 ^ length ds))),
  λ h.
      let e : 0 * 10 ^ length ds + value_of ds ≡ n = omega (arith, h.3, zero-mul (10 ^ length ds)) in
      number_in-fits ds h.0 h.1 ∙ read_on_digits 0 ds h.2 ∙ ap Some e,
)
