-- How many times numbers stand in a list, and what follows where each stands there once.
use Rattle.std.proofs.Common.{◌≡◌, ℕ, zero, suc, ◌+◌, ◌<◌, ◌≤◌, Bool, true, false, cond, eqb, ltb, List, [], ◌∷◌, length, get_or, refl, ◌∙◌, inl, inr, arith}
use Rattle.std.specs.List.{count_by}
use Rattle.std.proofs.lemmas.List.Sums.{sum_by-cons, count_by-le-length}
use Rattle.std.proofs.lemmas.Bool.{cases_eq, cases_lt, cond-true, cond-false, eq-eqb, ne_eqb, lt-ltb, le-ltb}
use Rattle.layers.specs.Once.{times, OnceEach}

-- ---- one entry

counted : (p : ℕ → Bool) (x : ℕ) (w : List ℕ) → p x ≡ true → count_by p (x ∷ w) ≡ suc (count_by p w)
counted p x w e = omega (arith, sum_by-cons (λ y. cond (p y) 1 0) x w, cond-true {A = ℕ} (p x) 1 0 e)

passed_over : (p : ℕ → Bool) (x : ℕ) (w : List ℕ) → p x ≡ false → count_by p (x ∷ w) ≡ count_by p w
passed_over p x w e = omega (arith, sum_by-cons (λ y. cond (p y) 1 0) x w, cond-false {A = ℕ} (p x) 1 0 e)

times_same : (q x : ℕ) (w : List ℕ) → x ≡ q → times q (x ∷ w) ≡ suc (times q w)
times_same q x w e = counted (λ y. eqb y q) x w (eq-eqb x q e)

times_other : (q x : ℕ) (w : List ℕ) → (x ≡ q → ⊥) → times q (x ∷ w) ≡ times q w
times_other q x w ne = passed_over (λ y. eqb y q) x w (ne_eqb x q ne)

-- ---- places

-- a number that stands at a place is counted
pub times_at : (w : List ℕ) (i : ℕ) → i < length w → 1 ≤ times (get_or w i 0) w
times_at [] i h = absurd (let z : ⊥ = omega arith in z)
times_at (x ∷ w) zero h = omega (arith, times_same x x w refl)
times_at (x ∷ w) (suc i) h =
    let q = get_or w i 0 in
    let k : 1 ≤ times q w = times_at w i (omega arith) in
    elim (cases_eq x q) [ inl e ↦ omega (arith, times_same q x w e) | inr ne ↦ omega (arith, times_other q x w ne) ]

-- a number that is counted stands at a place
pub place_of : (q : ℕ) (w : List ℕ) → 1 ≤ times q w → (i : ℕ) × (i < length w) × (get_or w i 0 ≡ q)
place_of q [] h = absurd (let z : ⊥ = omega arith in z)
place_of q (x ∷ w) h =
    elim (cases_eq x q) [
      | inl e ↦ (0, omega arith, e)
      | inr ne ↦ let r = place_of q w (omega (arith, times_other q x w ne)) in (suc r.0, omega (arith, r.1), r.2)
    ]

-- a number that stands at two places is counted twice
pub times_at_two : (w : List ℕ) (i j : ℕ) → i < j → j < length w → get_or w i 0 ≡ get_or w j 0 → 2 ≤ times (get_or w j 0) w
times_at_two [] i j l h e = absurd (let z : ⊥ = omega arith in z)
times_at_two (x ∷ w) i zero l h e = absurd (let z : ⊥ = omega arith in z)
times_at_two (x ∷ w) zero (suc j) l h e =
    omega (arith, times_same (get_or w j 0) x w e, times_at w j (omega arith))
times_at_two (x ∷ w) (suc i) (suc j) l h e =
    let q = get_or w j 0 in
    let k : 2 ≤ times q w = times_at_two w i j (omega arith) (omega arith) e in
    elim (cases_eq x q) [ inl e ↦ omega (arith, times_same q x w e) | inr ne ↦ omega (arith, times_other q x w ne) ]

-- ---- the entries below a limit

abbrev under : ℕ → List ℕ → ℕ
under n w = count_by (λ x. ltb x n) w

under_in : (n x : ℕ) (w : List ℕ) → x < n → under n (x ∷ w) ≡ suc (under n w)
under_in n x w h = counted (λ y. ltb y n) x w (lt-ltb x n h)

under_out : (n x : ℕ) (w : List ℕ) → n ≤ x → under n (x ∷ w) ≡ under n w
under_out n x w h = passed_over (λ y. ltb y n) x w (le-ltb x n h)

under-zero : (w : List ℕ) → under 0 w ≡ 0
under-zero [] = refl
under-zero (x ∷ w) = under_out 0 x w (omega arith) ∙ under-zero w

under-suc : (n : ℕ) (w : List ℕ) → under (suc n) w ≡ under n w + times n w
under-suc n [] = omega arith
under-suc n (x ∷ w) =
    let k = under-suc n w in
    elim (cases_eq x n) [
      | inl e ↦ omega (arith, k, under_in (suc n) x w (omega arith), under_out n x w (omega arith), times_same n x w e)
      | inr ne ↦ elim (cases_lt x n) [
        | inl l ↦ omega (arith, k, under_in (suc n) x w (omega arith), under_in n x w l, times_other n x w ne)
        | inr g ↦ omega (arith, k, under_out (suc n) x w (omega arith), under_out n x w g, times_other n x w ne)
      ]
    ]

-- where each number below n stands once, n entries are below n
under_once : (n : ℕ) (w : List ℕ) → ((q : ℕ) → q < n → times q w ≡ 1) → under n w ≡ n
under_once zero w each = under-zero w
under_once (suc n) w each =
    omega (arith, under-suc n w, under_once n w (λ q h. each q (omega arith)), each n (omega arith))

-- an entry that is not below n leaves fewer
under_fewer : (n : ℕ) (w : List ℕ) (i : ℕ) → i < length w → n ≤ get_or w i 0 → under n w < length w
under_fewer n [] i h g = absurd (let z : ⊥ = omega arith in z)
under_fewer n (x ∷ w) zero h g = omega (arith, under_out n x w g, count_by-le-length (λ y. ltb y n) w)
under_fewer n (x ∷ w) (suc i) h g =
    let k = under_fewer n w i (omega arith) g in
    elim (cases_lt x n) [ inl l ↦ omega (arith, k, under_in n x w l) | inr r ↦ omega (arith, k, under_out n x w r) ]

-- ---- lists with each number once

pub entries_below : (w : List ℕ) → OnceEach w → (i : ℕ) → i < length w → get_or w i 0 < length w
entries_below w once i h =
    elim (cases_lt (get_or w i 0) (length w)) [
      | inl l ↦ l
      | inr g ↦ absurd (let z : ⊥ = omega (arith, under_once (length w) w once, under_fewer (length w) w i h g) in z)
    ]

pub entries_apart : (w : List ℕ) → OnceEach w → (i j : ℕ) → i < j → j < length w → get_or w i 0 ≡ get_or w j 0 → ⊥
entries_apart w once i j l h e =
    omega (arith, times_at_two w i j l h e, once (get_or w j 0) (entries_below w once j h))
