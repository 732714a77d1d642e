-- The edge rule: step_of is the one step that StepOf describes.
use Rattle.std.proofs.Common.{◌≡◌, ℕ, zero, suc, ◌+◌, ◌-◌, ◌<◌, ◌≤◌, cond, leb, true, false, ◌⊎◌, List, [], ◌∷◌, length, Some, None, Option, sym, refl, ap, ◌∙◌, subst, inl, inr, arith}
use Rattle.std.proofs.lemmas.Bool.{cases_Bool, cases_eq, cases_lt, cases_order, leb-true, leb-false, cond-true, cond-false}
use Rattle.std.specs.Option.{SomeIff, unwrap_or}
use Rattle.std.specs.List.Sorted.{IsPartitionPoint, IsPartitionedBy}
use Rattle.std.proofs.lemmas.List.Sorted.{IsNonDecreasingBy-from_default, IsPartitionedBy-leb}
use Rattle.squeeze.specs.declared.step.Step.{Step}
use Rattle.squeeze.specs.Squeeze.{Squeeze, Keeps, StepOf, blank, begin, last_not_above, step_of}
use Rattle.squeeze.specs.Valid.{step_within}
use Rattle.squeeze.proofs.Rule.{one_more}

-- beginnings strictly rise
abbrev pub Rising : List Step → Type 0
Rising ss = (i j : ℕ) → i < j → j < length ss → begin ss i < begin ss j

pub rising : (t : Squeeze) → Keeps t → Rising t.steps
rising t k i zero h l = omega arith
rising t k i (suc j) h l =
    elim (cases_lt i j) [
      | inl lt ↦ omega (arith, rising t k i j lt (omega arith), k.rests j (omega arith), k.rises j l)
      | inr ge ↦
          let e : i ≡ j = omega arith in
          let P : ℕ → Type 0 = λ n. begin t.steps n < begin t.steps (suc j) in
          subst P (sym e) (omega (arith, k.rests j (omega arith), k.rises j l))
    ]

-- what last_not_above finds: none of the steps begins at x or below, or r is the last that does
pub record Found (ss : List Step) (x i r j : ℕ) : Type 0 where
  pub there : j < length ss
  pub at : r ≡ i + j
  pub below : begin ss j ≤ x
  pub above : (k : ℕ) → j < k → k < length ss → x < begin ss k

abbrev Finds : List Step → ℕ → ℕ → ℕ → ℕ → Type 0
Finds ss x i none r = (((k : ℕ) → k < length ss → x < begin ss k) × (r ≡ none)) ⊎ ((j : ℕ) × Found ss x i r j)

finds : (ss : List Step) (x i none : ℕ) → Finds ss x i none (last_not_above ss x i none)
finds [] x i none = inl (λ k h. omega arith, refl)
finds (s ∷ ss) x i none =
    elim (finds ss x (suc i) (cond (leb s.begin x) i none)) [
      | inr f ↦ inr (
        suc f.0,
        record {
          there = omega (arith, f.1.there);
          at = omega (arith, f.1.at);
          below = f.1.below;
          above = one_more (λ k. suc f.0 < k → k < suc (length ss) → x < begin (s ∷ ss) k) (λ h l. omega arith) (λ k h l. f.1.above k (omega arith) (omega arith));
        },
      )
      | inl n ↦
          elim (cases_Bool (leb s.begin x)) [
            | inl e ↦ inr (
              0,
              record {
                there = omega arith;
                at = omega (arith, n.1 ∙ cond-true (leb s.begin x) i none e);
                below = leb-true s.begin x e;
                above = one_more (λ k. 0 < k → k < suc (length ss) → x < begin (s ∷ ss) k) (λ h l. omega arith) (λ k h l. n.0 k (omega arith));
              },
            )
            | inr e ↦ inl (one_more (λ k. k < suc (length ss) → x < begin (s ∷ ss) k) (λ h. leb-false s.begin x e) (λ k h. n.0 k (omega arith)), n.1 ∙ cond-false (leb s.begin x) i none e)
          ]
    ]

-- step_of ss x is the step that StepOf describes
pub step_of_is : (t : Squeeze) → Keeps t → (x : ℕ) → StepOf t.steps x (step_of t.steps x)
step_of_is t k x =
    elim (finds t.steps x 0 (length t.steps - 1)) [
      | inl n ↦ record { there = step_within t.steps x k.some_step; covers = inr (n.0 0 k.some_step, omega (arith, n.1, k.some_step)) }
      | inr f ↦
          let e : f.0 ≡ step_of t.steps x = omega (arith, f.1.at) in
          let P : ℕ → Type 0 = λ r. StepOf t.steps x r in
          subst P e (record {
            there = f.1.there;
            covers = inl (
              f.1.below,
              λ m l h. elim (cases_order m f.0) [
                | inl same ↦ let s : begin t.steps m ≡ begin t.steps f.0 = ap (begin t.steps) same in omega arith
                | inr o ↦ elim o [
                  | inl lt ↦ omega (arith, rising t k m f.0 lt f.1.there)
                  | inr gt ↦ omega (arith, f.1.above m gt l)
                ]
              ],
            );
          })
    ]

-- and StepOf describes one step
pub step_of_unique : (t : Squeeze) → Keeps t → (x i j : ℕ) → StepOf t.steps x i → StepOf t.steps x j → i ≡ j
step_of_unique t k x i j p q =
    let first : (m : ℕ) → m < length t.steps → begin t.steps 0 ≤ begin t.steps m = one_more (λ m. m < length t.steps → begin t.steps 0 ≤ begin t.steps m) (λ l. omega arith) (λ m l. omega (arith, rising t k 0 (suc m) (omega arith) l)) in
    elim p.covers [
      | inr a ↦ elim q.covers [
        | inr b ↦ omega arith
        | inl b ↦ omega (arith, first j q.there)
      ]
      | inl a ↦ elim q.covers [
        | inr b ↦ omega (arith, first i p.there)
        | inl b ↦ elim (cases_order i j) [
          | inl same ↦ same
          | inr o ↦ elim o [
            | inl lt ↦ omega (arith, rising t k i j lt q.there, a.1 j q.there b.0)
            | inr gt ↦ omega (arith, rising t k j i gt p.there, b.1 i p.there a.0)
          ]
        ]
      ]
    ]

-- the beginnings are sorted, so those at x or below are in front
pub begun_parts : (t : Squeeze) → Keeps t → (x : ℕ) → IsPartitionedBy (λ s. leb s.begin x) t.steps
begun_parts t k x =
    IsPartitionedBy-leb (λ s. s.begin) t.steps x (IsNonDecreasingBy-from_default (λ s. s.begin) t.steps blank (λ i j le l. elim (cases_lt i j) [
      | inl lt ↦ omega (arith, rising t k i j lt l)
      | inr ge ↦ let e : i ≡ j = omega arith in omega (arith, ap (begin t.steps) e)
    ]))

-- and end with the step of x; where there are none, it is the last of all
pub begun_ends : (t : Squeeze) → Keeps t → (x n r : ℕ) (o : Option ℕ) → n ≤ length t.steps → IsPartitionPoint (λ s. leb s.begin x ≡ true) (λ s. leb s.begin x ≡ false) t.steps n → SomeIff o (1 ≤ n) (n - 1) → r ≡ unwrap_or o (length t.steps - 1) → StepOf t.steps x r
begun_ends t k x n r None few parts none is =
    let z : n ≡ 0 = elim (cases_eq n 0) [ inl z ↦ z | inr p ↦ absurd (none (omega (arith, p))) ] in
    let above : x < begin t.steps 0 = leb-false _ x (parts.1 0 blank (omega arith) (omega (arith, k.some_step))) in
    record { there = omega (arith, k.some_step); covers = inr (above, omega (arith, k.some_step)) }
begun_ends t k x n r (Some i) few parts some is =
    let last : suc r ≡ n = omega (arith, some.0, some.1) in
    record {
      there = omega arith;
      covers = inl (
        leb-true _ x (parts.0 r blank (omega arith) (omega arith)),
        λ j l h. elim (cases_order r j) [
          | inl same ↦ omega (arith, ap (begin t.steps) same)
          | inr o ↦ elim o [
            | inl lt ↦ let above : x < begin t.steps j = leb-false _ x (parts.1 j blank (omega arith) l) in omega arith
            | inr gt ↦ omega (arith, rising t k j r gt (omega arith))
          ]
        ],
      );
    }
