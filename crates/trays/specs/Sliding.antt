-- The slide of a part: what the model counts is a slide by the relation.
use Rattle.std.specs.Prelude.{◌≡◌, ℕ, zero, suc, ◌+◌, ◌-◌, ◌*◌, ◌<◌, ◌≤◌, Bool, true, false, cond, T, nat_le, nat_lt, slice_index_or, refl}
use Rattle.std.proofs.Common.{ap, ◌∙◌, inl, inr, add-zero, arith}
use Rattle.std.proofs.Math.Nat.{sub-zero}
use Rattle.std.proofs.lemmas.Bool.{cases_Bool, cases_lt, false≢true, cond-true, cond-false, ltb-true, le-ltb, lt-leb}
use Rattle.std.proofs.Math.Dec.{leb-zero}
use Rattle.trays.specs.Tray.{Grid, free, free_ahead, ahead, Slides, slid}

-- what a test that holds says of its parts
held_by : (b : Bool) (x : Bool) → cond b x false ≡ true → (b ≡ true) × (x ≡ true)
held_by true x h = (refl, h)
held_by false x h = absurd (false≢true h)

pub held : (b : Bool) → T b → b ≡ true
held true h = refl
held false h = absurd h

pub holds : (b : Bool) → b ≡ true → T b
holds true h = tt
holds false h = absurd (false≢true h)

-- a free cell is inside the tray
pub free_in : (t : Grid) (r c : ℕ) → free t r c ≡ true → (r < t.rows) × (c < t.columns) × (slice_index_or t.cells (r * t.columns + c) false ≡ true)
free_in t r c h =
    let p = held_by (nat_lt r t.rows) _ h in
    let q = held_by (nat_lt c t.columns) _ p.1 in
    (ltb-true _ _ p.0, ltb-true _ _ q.0, q.1)

-- beyond the rows or the columns nothing is free
pub free-below : (t : Grid) (r c : ℕ) → t.rows ≤ r → free t r c ≡ false
free-below t r c h = cond-false (nat_lt r t.rows) _ _ (le-ltb _ _ h)

pub free_beside : (t : Grid) (r c : ℕ) → t.columns ≤ c → free t r c ≡ false
free_beside t r c h =
    elim (nat_lt r t.rows) as (λ b. cond b (cond (nat_lt c t.columns) (slice_index_or t.cells (r * t.columns + c) false) false) false ≡ false) [
      | true ↦ cond-false (nat_lt c t.columns) _ _ (le-ltb _ _ h)
      | false ↦ refl
    ]

-- the index of a free cell ahead is that of a free cell
pub ahead-free : (t : Grid) (a r c i : ℕ) → free_ahead t a r c i ≡ true → slice_index_or t.cells (ahead t a r c i) false ≡ true
ahead-free t zero r c i h = (free_in t (r - i) c (held_by (nat_le i r) _ h).1).2
ahead-free t (suc zero) r c i h = (free_in t r (c + i) h).2
ahead-free t (suc (suc zero)) r c i h = (free_in t (r + i) c h).2
ahead-free t (suc (suc (suc a))) r c i h = (free_in t r (c - i) (held_by (nat_le i c) _ h).1).2

-- 16 cells ahead there is the rim
pub far_off : (t : Grid) (a r c i : ℕ) → t.rows ≤ 16 → t.columns ≤ 16 → r < t.rows → c < t.columns → 16 ≤ i → free_ahead t a r c i ≡ false
far_off t zero r c i hr hc r-in c-in h = cond-false (nat_le i r) _ _ (lt-leb _ _ (omega arith))
far_off t (suc zero) r c i hr hc r-in c-in h = free_beside t r (c + i) (omega arith)
far_off t (suc (suc zero)) r c i hr hc r-in c-in h = free-below t (r + i) c (omega arith)
far_off t (suc (suc (suc a))) r c i hr hc r-in c-in h = cond-false (nat_le i c) _ _ (lt-leb _ _ (omega arith))

-- one step of the count
pub slid_on : (t : Grid) (a r c n d : ℕ) → free_ahead t a r c (suc d) ≡ true → slid t a r c (suc n) d ≡ slid t a r c n (suc d)
slid_on t a r c n d h = ap (λ (b : Bool). elim b as (λ _. ℕ) [ true ↦ slid t a r c n (suc d) | false ↦ d ]) h

pub slid_off : (t : Grid) (a r c n d : ℕ) → free_ahead t a r c (suc d) ≡ false → slid t a r c (suc n) d ≡ d
slid_off t a r c n d h = ap (λ (b : Bool). elim b as (λ _. ℕ) [ true ↦ slid t a r c n (suc d) | false ↦ d ]) h

-- the count never passes a cell that is not free
over_from : (t : Grid) (a r c n d : ℕ) → ((i : ℕ) → i ≤ d → T (free_ahead t a r c i)) → (i : ℕ) → i ≤ slid t a r c n d → T (free_ahead t a r c i)
over_from t a r c zero d h i le = h i le
over_from t a r c (suc n) d h i le =
    elim (cases_Bool (free_ahead t a r c (suc d))) [
      | inl e ↦ over_from t a r c n (suc d) (one_more e) i (omega (arith, slid_on t a r c n d e, le))
      | inr e ↦ h i (omega (arith, slid_off t a r c n d e, le))
    ]
  where
    one_more : free_ahead t a r c (suc d) ≡ true → (k : ℕ) → k ≤ suc d → T (free_ahead t a r c k)
    one_more e k hk =
        elim (cases_lt k (suc d)) [
          | inl l ↦ h k (omega arith)
          | inr g ↦ let same : k ≡ suc d = omega arith in rw same (holds (free_ahead t a r c (suc d)) e)
        ]

-- and it ends before one, if it may go as far as where all is rim
stops_from : (t : Grid) (a r c n d : ℕ) → ((i : ℕ) → 16 ≤ i → free_ahead t a r c i ≡ false) → 16 ≤ n + d → free_ahead t a r c (suc (slid t a r c n d)) ≡ false
stops_from t a r c zero d rim far = rim (suc d) (omega arith)
stops_from t a r c (suc n) d rim far =
    elim (cases_Bool (free_ahead t a r c (suc d))) [
      | inl e ↦ ap (λ k. free_ahead t a r c (suc k)) (slid_on t a r c n d e) ∙ stops_from t a r c n (suc d) rim (omega arith)
      | inr e ↦ ap (λ k. free_ahead t a r c (suc k)) (slid_off t a r c n d e) ∙ e
    ]

-- The count is a slide.
pub slides : (t : Grid) (a r c : ℕ) → t.rows ≤ 16 → t.columns ≤ 16 → r < t.rows → c < t.columns → T (free_ahead t a r c 0) → Slides t a r c (slid t a r c 16 0)
slides t a r c hr hc r-in c-in h = record {
  over = over_from t a r c 16 0 (λ i le. let none : i ≡ 0 = omega arith in rw none h);
  stops = stops_from t a r c 16 0 (λ i far. far_off t a r c i hr hc r-in c-in far) (omega arith);
}

-- A cell that is inside the tray and free is ahead of itself at no distance.
pub here_free : (t : Grid) (a r c : ℕ) → free t r c ≡ true → free_ahead t a r c 0 ≡ true
here_free t zero r c h = cond-true (nat_le 0 r) _ _ (leb-zero r) ∙ ap (λ k. free t k c) (sub-zero r) ∙ h
here_free t (suc zero) r c h = ap (free t r) (add-zero c) ∙ h
here_free t (suc (suc zero)) r c h = ap (λ k. free t k c) (add-zero r) ∙ h
here_free t (suc (suc (suc a))) r c h = cond-true (nat_le 0 c) _ _ (leb-zero c) ∙ ap (free t r) (sub-zero c) ∙ h
