-- The rule of the steps, one step at a time: what the tests of the sheet say of the steps read.
use Rattle.std.proofs.Common.{◌≡◌, ℕ, zero, suc, ◌+◌, ◌-◌, ◌<◌, ◌≤◌, true, false, eqb, ltb, leb, List, [], ◌∷◌, ◌++◌, length, Some, None, sym, refl, ap, ◌∙◌, inl, inr, arith}
use borrow.Author.Tests.{clash}
use Rattle.std.proofs.lemmas.List.{get_or_append_left, get_or_push, length_push}
use Rattle.std.proofs.lemmas.Option.{get_or_from_slice_get, slice_get-get_or, slice_get_within}
use Rattle.std.specs.List.{slice_get}
use Rattle.std.proofs.lemmas.Bool.{cases_Bool, cases_lt, cases_eq, cond-true, cond-false, leb-true, ltb-true, le-leb, lt-ltb, eq-eqb, ne_eqb}
use Rattle.squeeze.specs.declared.step.Step.{Step}
use Rattle.squeeze.specs.Squeeze.{blank, begin, rest}
use Rattle.squeeze.specs.Sheet.{follows, settles}

-- what holds of 0 and of each number above it
pub one_more : (P : ℕ → Type 0) → P 0 → ((k : ℕ) → P (suc k)) → (k : ℕ) → P k
one_more P z s zero = z
one_more P z s (suc k) = s k

-- the steps follow one another, each begins below T
pub record Steps (ticks : ℕ) (ss : List Step) : Type 0 where
  pub begins : (i : ℕ) → i < length ss → begin ss i < ticks
  pub rests : (i : ℕ) → i < length ss → begin ss i ≤ rest ss i
  pub rises : (i : ℕ) → suc i < length ss → rest ss i < begin ss (suc i)

-- the last of them rests below T + b(0)
abbrev pub Closed : ℕ → List Step → Type 0
Closed ticks ss = rest ss (length ss - 1) < ticks + begin ss 0

-- `follows` asks for the last rest
pub follows_is : (ss : List Step) (b : ℕ) → 1 ≤ length ss → follows ss b ≡ ltb (rest ss (length ss - 1)) b
follows_is [] b h = let no : ⊥ = omega arith in elim no [ ]
follows_is (s ∷ []) b h = refl
follows_is (s ∷ (s₁ ∷ ss)) b h =
    let e : suc (length (s₁ ∷ ss)) - 1 ≡ suc (length (s₁ ∷ ss) - 1) = omega arith in
    follows_is (s₁ ∷ ss) b (omega arith) ∙ ap (λ (k : ℕ). ltb (rest (s ∷ (s₁ ∷ ss)) k) b) (sym e)

pub follows_none : (ss : List Step) (b : ℕ) → slice_get ss (length ss - 1) ≡ None → follows ss b ≡ true
follows_none [] b h = refl
follows_none (s ∷ ss) b h = let some = slice_get-get_or (s ∷ ss) (length (s ∷ ss) - 1) blank (omega arith) in absurd (cc)

pub follows_last : (ss : List Step) (b : ℕ) (s : Step) → slice_get ss (length ss - 1) ≡ Some s → follows ss b ≡ ltb s.rest b
follows_last ss b s h =
    let in_list = slice_get_within ss (length ss - 1) s h in
    follows_is ss b (omega arith) ∙ ap (λ (q : Step). ltb q.rest b) (get_or_from_slice_get ss (length ss - 1) s blank h)

pub follows_true : (ss : List Step) (b : ℕ) → (1 ≤ length ss → rest ss (length ss - 1) < b) → follows ss b ≡ true
follows_true [] b h = refl
follows_true (s ∷ ss) b h = follows_is (s ∷ ss) b (omega arith) ∙ lt-ltb (rest (s ∷ ss) (length (s ∷ ss) - 1)) b (h (omega arith))

pub follows_only : (ss : List Step) (b : ℕ) → follows ss b ≡ true → 1 ≤ length ss → rest ss (length ss - 1) < b
follows_only ss b h l = ltb-true (rest ss (length ss - 1)) b (sym (follows_is ss b l) ∙ h)

pub settles_true : (ticks left : ℕ) (read : List Step) (s : Step) → s.begin ≤ s.rest → (left ≡ 0 → s.rest < ticks + begin (read ++ (s ∷ [])) 0) → settles ticks left read s.begin s.rest ≡ true
settles_true ticks left read s h l =
    cond-true (leb s.begin s.rest) _ _ (le-leb s.begin s.rest h)
    ∙ elim (cases_eq left 0) [
      | inl e ↦ cond-true (eqb left 0) _ _ (eq-eqb left 0 e) ∙ lt-ltb s.rest (ticks + begin (read ++ (s ∷ [])) 0) (l e)
      | inr e ↦ cond-false (eqb left 0) _ _ (ne_eqb left 0 e)
    ]

pub settles_only : (ticks left : ℕ) (read : List Step) (s : Step) → settles ticks left read s.begin s.rest ≡ true → (s.begin ≤ s.rest) × (left ≡ 0 → s.rest < ticks + begin (read ++ (s ∷ [])) 0)
settles_only ticks left read s h =
    elim (cases_Bool (leb s.begin s.rest)) [
      | inl e ↦ (leb-true s.begin s.rest e, λ z. ltb-true s.rest (ticks + begin (read ++ (s ∷ [])) 0) (sym (cond-true (leb s.begin s.rest) _ _ e ∙ cond-true (eqb left 0) _ _ (eq-eqb left 0 z)) ∙ h))
      | inr e ↦ elim (clash (sym (cond-false (leb s.begin s.rest) _ false e) ∙ h)) [ ]
    ]

-- one step more
begin_left : (ss : List Step) (s : Step) (i : ℕ) → i < length ss → begin (ss ++ (s ∷ [])) i ≡ begin ss i
begin_left ss s i h = ap (λ (q : Step). q.begin) (get_or_append_left ss (s ∷ []) blank i h)

rest_left : (ss : List Step) (s : Step) (i : ℕ) → i < length ss → rest (ss ++ (s ∷ [])) i ≡ rest ss i
rest_left ss s i h = ap (λ (q : Step). q.rest) (get_or_append_left ss (s ∷ []) blank i h)

begin_here : (ss : List Step) (s : Step) (i : ℕ) → length ss ≡ i → begin (ss ++ (s ∷ [])) i ≡ s.begin
begin_here ss s i h = ap (λ (q : Step). q.begin) (get_or_push ss s blank i h)

rest_here : (ss : List Step) (s : Step) (i : ℕ) → length ss ≡ i → rest (ss ++ (s ∷ [])) i ≡ s.rest
rest_here ss s i h = ap (λ (q : Step). q.rest) (get_or_push ss s blank i h)

pub steps-none : (ticks : ℕ) → Steps ticks []
steps-none ticks = record { begins = λ i h. omega arith; rests = λ i h. omega arith; rises = λ i h. omega arith }

pub steps_more : (ticks : ℕ) (ss : List Step) (s : Step) → Steps ticks ss → s.begin < ticks → follows ss s.begin ≡ true → s.begin ≤ s.rest → Steps ticks (ss ++ (s ∷ []))
steps_more ticks ss s g b f r =
    let n : length (ss ++ (s ∷ [])) ≡ length ss + 1 = length_push ss s in
    record {
      begins = λ i h. elim (cases_lt i (length ss)) [
        | inl l ↦ omega (arith, begin_left ss s i l, g.begins i l)
        | inr l ↦ omega (arith, begin_here ss s i (omega (arith, n)))
      ];
      rests = λ i h. elim (cases_lt i (length ss)) [
        | inl l ↦ omega (arith, begin_left ss s i l, rest_left ss s i l, g.rests i l)
        | inr l ↦ omega (arith, begin_here ss s i (omega (arith, n)), rest_here ss s i (omega (arith, n)))
      ];
      rises = λ i h. elim (cases_lt (suc i) (length ss)) [
        | inl l ↦ omega (arith, begin_left ss s (suc i) l, rest_left ss s i (omega arith), g.rises i l)
        | inr l ↦
            let e : length ss - 1 ≡ i = omega (arith, n) in
            let q : rest ss (length ss - 1) ≡ rest ss i = ap (rest ss) e in
            omega (arith, begin_here ss s (suc i) (omega (arith, n)), rest_left ss s i (omega (arith, n)), q, follows_only ss s.begin f (omega (arith, n)))
      ];
    }

pub closed_more : (ticks : ℕ) (ss : List Step) (s : Step) → s.rest < ticks + begin (ss ++ (s ∷ [])) 0 → Closed ticks (ss ++ (s ∷ []))
closed_more ticks ss s h = omega (arith, rest_here ss s (length (ss ++ (s ∷ [])) - 1) (omega (arith, length_push ss s)))

-- no rest reaches two half turns
pub rest_low : (ticks : ℕ) (ss : List Step) → Steps ticks ss → Closed ticks ss → (i : ℕ) → i < length ss → rest ss i < ticks + ticks
rest_low ticks ss g last i h =
    elim (cases_lt (suc i) (length ss)) [
      | inl l ↦ omega (arith, g.rises i l, g.begins (suc i) l)
      | inr e ↦
          let same : i ≡ length ss - 1 = omega arith in
          let r : rest ss i ≡ rest ss (length ss - 1) = ap (rest ss) same in
          omega (arith, r, last, g.begins 0 (omega arith))
    ]
