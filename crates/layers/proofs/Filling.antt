-- The two arrays that a list makes keep the rule of a renumbering table.
use Rattle.std.proofs.Common.{◌≡◌, ℕ, ◌<◌, ◌≤◌, List, length, get_or, take, sym, ap, ◌∙◌, inl, inr, arith}
use Rattle.std.proofs.lemmas.List.{ext_get_or, get_or-take, length-take-le}
use Rattle.std.proofs.lemmas.Bool.{cases_lt}
use Rattle.layers.specs.Once.{Fills}
use Rattle.layers.specs.Renumbering.{Keeps}
use Rattle.layers.proofs.Counting.{place_of, entries_below}

-- what the code makes of a list that fills a table
pub record Made (list number place : List ℕ) : Type 0 where
  pub fills : Fills list
  pub number_front : (p : ℕ) → p < length list → get_or number p 0 ≡ get_or list p 0
  pub number_own : (p : ℕ) → length list ≤ p → p < 32 → get_or number p 0 ≡ p
  pub place_front : (p : ℕ) → p < length list → get_or place (get_or list p 0) 0 ≡ p
  pub place_own : (q : ℕ) → length list ≤ q → q < 32 → get_or place q 0 ≡ q

number_inside : (list number place : List ℕ) → Made list number place → (p : ℕ) → p < length list → get_or number p 0 < length list
number_inside list number place m p h = omega (arith, m.number_front p h, entries_below list m.fills.once p h)

-- a number of the list stands at its place, which is one of the list's
place_there : (list number place : List ℕ) → Made list number place → (q : ℕ) → q < length list → (get_or place q 0 < length list) × (get_or list (get_or place q 0) 0 ≡ q)
place_there list number place m q h =
    let r = place_of q list (omega (arith, m.fills.once q h)) in
    let e : get_or place q 0 ≡ r.0 = ap (λ (x : ℕ). get_or place x 0) (sym r.2) ∙ m.place_front r.0 r.1 in
    (omega (arith, r.1), ap (λ (x : ℕ). get_or list x 0) e ∙ r.2)

place_reached : (list number place : List ℕ) → Made list number place → (q : ℕ) → q < 32 → get_or place q 0 < 32
place_reached list number place m q h =
    elim (cases_lt q (length list)) [
      | inl l ↦ omega (arith, (place_there list number place m q l).0, m.fills.few)
      | inr g ↦ omega (arith, m.place_own q g h)
    ]

number_back : (list number place : List ℕ) → Made list number place → (q : ℕ) → q < 32 → get_or number (get_or place q 0) 0 ≡ q
number_back list number place m q h =
    elim (cases_lt q (length list)) [
      | inl l ↦ let r = place_there list number place m q l in m.number_front (get_or place q 0) r.0 ∙ r.1
      | inr g ↦ ap (λ (x : ℕ). get_or number x 0) (m.place_own q g h) ∙ m.number_own q g h
    ]

place_forth : (list number place : List ℕ) → Made list number place → (p : ℕ) → p < 32 → get_or place (get_or number p 0) 0 ≡ p
place_forth list number place m p h =
    elim (cases_lt p (length list)) [
      | inl l ↦ ap (λ (x : ℕ). get_or place x 0) (m.number_front p l) ∙ m.place_front p l
      | inr g ↦ ap (λ (x : ℕ). get_or place x 0) (m.number_own p g h) ∙ m.place_own p g h
    ]

pub keeps : (list number place : List ℕ) → length number ≡ 32 → Made list number place → Keeps (record { count = length list; number = number; place = place })
keeps list number place whole m = record {
  few = m.fills.few;
  fits = whole;
  inside = number_inside list number place m;
  own = m.number_own;
  back = λ q h. (place_reached list number place m q h, number_back list number place m q h);
  forth = place_forth list number place m;
}

pub take-number : (list number : List ℕ) → length list ≤ length number → ((p : ℕ) → p < length list → get_or number p 0 ≡ get_or list p 0) → take (length list) number ≡ list
take-number list number fits same =
    let long = length-take-le (length list) number fits in
    ext_get_or 0 (take (length list) number) list long (λ i h.
    let inside : i < length list = omega arith in
    get_or-take (length list) number i 0 inside ∙ same i inside)
