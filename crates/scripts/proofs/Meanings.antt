-- A line is read as a request exactly when it spells it.
use Rattle.std.proofs.Common.{◌≡◌, ℕ, ◌-◌, ◌≤◌, cond, eqb, ◌↔◌, List, [], ◌∷◌, length, get_or, take, drop, Some, None, Option, sym, refl, ap, ◌∙◌, subst, ap₂, inl, inr, arith}
use Rattle.std.proofs.lemmas.Option.{none-some, same_Some}
use Rattle.std.proofs.lemmas.List.{take_all}
use Rattle.std.proofs.lemmas.Bool.{cases_Bool, cond-true, cond-false, eqb-true, eq-eqb}
use Rattle.std.specs.Option.{option_map}
use Rattle.scripts.specs.Requests.{letter_of, carried_by, Carries, Spells}
use Rattle.scripts.specs.Reading.{number_in, alone, request_by, request_with, request_of, OneMeaning}
use Rattle.scripts.specs.declared.request.Request.{Request}
use Rattle.scripts.specs.declared.request.Request.TheVariants.{Bar, Allow, Shake, Step, Plan, Add, Cut, Aim, Trace}
use Rattle.scripts.proofs.Numbers.{number_in_digits}

-- ---- letters

-- the letter and the number of a request make that request
request_by_own : (r : Request) → request_by (letter_of r) (carried_by r) ≡ Some r
request_by_own (Bar n) = refl
request_by_own (Allow n) = refl
request_by_own Shake = refl
request_by_own (Step n) = refl
request_by_own Plan = refl
request_by_own (Add n) = refl
request_by_own (Cut n) = refl
request_by_own (Aim n) = refl
request_by_own Trace = refl

-- what a letter and perhaps a number make has that letter and that number
module _ (c : ℕ) (o : Option ℕ) (r : Request) where
  Has : Type 0
  Has = (c ≡ letter_of r) × (carried_by r ≡ o)

  among : (k : ℕ) (x y : Option Request) → (c ≡ k → x ≡ Some r → Has) → (y ≡ Some r → Has) → cond (eqb c k) x y ≡ Some r → Has
  among k x y here there h =
      elim (cases_Bool (eqb c k)) [
        | inl e ↦ here (eqb-true c k e) (sym (cond-true (eqb c k) x y e) ∙ h)
        | inr e ↦ there (sym (cond-false (eqb c k) x y e) ∙ h)
      ]

with_number : (make : ℕ → Request) (k c : ℕ) (o : Option ℕ) (r : Request) → ((n : ℕ) → letter_of (make n) ≡ k) → ((n : ℕ) → carried_by (make n) ≡ Some n) → c ≡ k → option_map make o ≡ Some r → Has c o r
unfolding Has
with_number make k c None r l n e h = absurd (none-some r h)
with_number make k c (Some x) r l n e h =
    let same = same_Some (make x) r h in
    (e ∙ sym (l x) ∙ ap letter_of same, sym (ap carried_by same) ∙ n x)

without : (q : Request) (c : ℕ) (o : Option ℕ) (r : Request) → carried_by q ≡ None → c ≡ letter_of q → alone o q ≡ Some r → Has c o r
unfolding Has
without q c None r n e h = let same = same_Some q r h in (e ∙ ap letter_of same, sym (ap carried_by same) ∙ n)
without q c (Some x) r n e h = absurd (none-some r h)

request_by-has : (c : ℕ) (o : Option ℕ) (r : Request) → request_by c o ≡ Some r → Has c o r
request_by-has c o r =
    among c o r 66 _ _ (with_number Bar 66 c o r (λ _. refl) (λ _. refl))
    (among c o r 65 _ _ (with_number Allow 65 c o r (λ _. refl) (λ _. refl))
    (among c o r 75 _ _ (without Shake c o r refl)
    (among c o r 83 _ _ (with_number Step 83 c o r (λ _. refl) (λ _. refl))
    (among c o r 80 _ _ (without Plan c o r refl)
    (among c o r 68 _ _ (with_number Add 68 c o r (λ _. refl) (λ _. refl))
    (among c o r 67 _ _ (with_number Cut 67 c o r (λ _. refl) (λ _. refl))
    (among c o r 77 _ _ (with_number Aim 77 c o r (λ _. refl) (λ _. refl))
    (among c o r 84 _ _ (without Trace c o r refl)
    (λ h. absurd (none-some r h))))))))))

request_by_is : (c : ℕ) (o : Option ℕ) (r : Request) → (request_by c o ≡ Some r) ↔ ((c ≡ letter_of r) × (carried_by r ≡ o))
unfolding Has
request_by_is c o r = (request_by-has c o r, λ h. ap₂ request_by h.0 (sym h.1) ∙ request_by_own r)

-- ---- lines

spelled-with : (c : ℕ) (ds : List ℕ) (r : Request) (o : Option ℕ) → number_in ds ≡ o → request_with c o ≡ Some r → Spells (c ∷ (32 ∷ ds)) r
spelled-with c ds r None e h = absurd (none-some r h)
spelled-with c ds r (Some n) e h =
    let is = (request_by_is c (Some n) r).0 h in
    let d = (number_in_digits ds n).0 e in
    (32 ∷ ds, ap (λ (x : ℕ). x ∷ (32 ∷ ds)) is.0, subst (λ (o : Option ℕ). Carries o (32 ∷ ds)) (sym is.1) (ds, refl, d.0, d.1, d.2, d.3))

spelled : (line : List ℕ) (r : Request) → request_of line ≡ Some r → Spells line r
spelled [] r h = absurd (none-some r h)
spelled (c ∷ []) r h =
    let is = (request_by_is c None r).0 h in
    ([], ap (λ (x : ℕ). x ∷ []) is.0, subst (λ (o : Option ℕ). Carries o []) (sym is.1) refl)
spelled (c ∷ (b ∷ ds)) r h =
    elim (cases_Bool (eqb b 32)) [
      | inl e ↦ subst (λ (x : ℕ). Spells (c ∷ (x ∷ ds)) r) (sym (eqb-true b 32 e)) (spelled-with c ds r (number_in ds) refl (sym (cond-true (eqb b 32) (request_with c (number_in ds)) None e) ∙ h))
      | inr e ↦ absurd (none-some r (sym (cond-false (eqb b 32) (request_with c (number_in ds)) None e) ∙ h))
    ]

read_as : (r : Request) (rest : List ℕ) (o : Option ℕ) → carried_by r ≡ o → Carries o rest → request_of (letter_of r ∷ rest) ≡ Some r
read_as r rest None e f =
    ap (λ (x : List ℕ). request_of (letter_of r ∷ x)) f ∙ (request_by_is (letter_of r) None r).1 (refl, e)
read_as r rest (Some n) e f =
    let ds = f.0 in
    ap (λ (x : List ℕ). request_of (letter_of r ∷ x)) f.1
    ∙ ap (request_with (letter_of r)) ((number_in_digits ds n).1 (f.2, f.3, f.4, f.5)) ∙ (request_by_is (letter_of r) (Some n) r).1 (refl, e)

pub one_meaning : OneMeaning
one_meaning line r = (spelled line r, λ s. ap request_of s.1 ∙ read_as r s.0 (carried_by r) refl s.2)

-- ---- a line as the code takes it apart

pub request_of-with : (line : List ℕ) → 2 ≤ length line → get_or line 1 0 ≡ 32 → request_of line ≡ request_with (get_or line 0 0) (number_in (take (length line - 2) (drop 2 line)))
request_of-with [] h e = let z : ⊥ = omega arith in absurd z
request_of-with (c ∷ []) h e = let z : ⊥ = omega arith in absurd z
request_of-with (c ∷ (b ∷ ds)) h e =
    cond-true (eqb b 32) (request_with c (number_in ds)) None (eq-eqb b 32 e)
    ∙ ap (λ (x : List ℕ). request_with c (number_in x)) (sym (take_all (length (c ∷ (b ∷ ds)) - 2) ds (omega arith)))
