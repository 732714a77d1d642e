-- What comes of the fields before a part of a sheet comes of what the part gave and the fields after it.
use Rattle.std.proofs.Common.{◌≡◌, ℕ, suc, ◌+◌, ◌-◌, ◌<◌, true, ltb, List, [], ◌∷◌, ◌++◌, Ok, Result, sym, refl, ap, ◌∙◌, subst, arith}
use Rattle.refusals.specs.declared.Fault.{Fault}
use Rattle.refusals.specs.declared.Refusal.TheVariants.{OutsideLimit, OutOfOrder}
use Rattle.lists.specs.declared.bounded.Bounded.{Bounded}
use Rattle.lists.specs.Held.{list_of}
use Rattle.numbers.specs.declared.fields.Fields.{Fields}
use Rattle.numbers.specs.Field.{Takes, and_then, number_in, rest_of, whole_of}
use Rattle.numbers.specs.Grammar.{number, tested, ended, within}
use Rattle.numbers.proofs.Field.{below_at, limited_at, field_takes, number_takes, takes_below, ended_then}
use Rattle.numbers.proofs.Grammar.{tested_true}
use Rattle.squeeze.specs.declared.step.Step.{Step}
use Rattle.squeeze.specs.Squeeze.{Squeeze}
use Rattle.squeeze.specs.Reading.{TakesStep, TakesSteps, TakesTurns}
use Rattle.squeeze.specs.Sheet.{turns_left, follows, settles, steps_left, squeeze_fields}

-- the next of count turns, where i are read
pub turn_takes : (whole : List ℕ) (end ticks : ℕ) (steps : List Step) (count i : ℕ) (read : List ℕ) (before after : Fields) (r : Result ℕ Fault) → i < count → end ≡ ticks → whole_of before ≡ whole → Takes (below_at end) before after r
    → turns_left whole ticks steps (count - i) read (rest_of before) ≡ and_then r (λ v. turns_left whole ticks steps (count - (i + 1)) (read ++ (v ∷ [])) (rest_of after))
turn_takes whole end ticks steps count i read before after r h is same t =
    let one : count - i ≡ suc (count - (i + 1)) = omega arith in
    ap (λ n. turns_left whole ticks steps n read (rest_of before)) one
    ∙ field_takes (λ v. ltb v ticks) OutsideLimit whole before after r (λ v rest. turns_left whole ticks steps (count - (i + 1)) (read ++ (v ∷ [])) rest) same (takes_below end ticks before after r is t)

-- what comes after the rest s of a step that begins at b, and what comes after its beginning
abbrev pub after_rest : List ℕ → ℕ → ℕ → ℕ → List Step → ℕ → List ℕ → ℕ → List ℕ → Result Squeeze Fault
after_rest whole ticks k left read b here s rest =
    tested (settles ticks left read b s) OutOfOrder whole here (steps_left whole ticks k left (read ++ (record { begin = b; rest = s } ∷ [])) rest)

abbrev pub after_begin : List ℕ → ℕ → ℕ → ℕ → List Step → List ℕ → ℕ → List ℕ → Result Squeeze Fault
after_begin whole ticks k left read here b rest =
    tested (follows read b) OutOfOrder whole here (number whole rest (after_rest whole ticks k left read b rest))

module _ (end ticks left : ℕ) (read : List Step) (is : end ≡ ticks) (f₀ f₁ : Fields) where
  pub begin_takes : (r : Result ℕ Fault) → Takes (below_at end) f₀ f₁ r → (k : ℕ) → steps_left (whole_of f₀) ticks k (suc left) read (rest_of f₀) ≡ and_then r (λ b. after_begin (whole_of f₀) ticks k left read (rest_of f₀) b (rest_of f₁))
  begin_takes r h k =
      field_takes (λ b. ltb b ticks) OutsideLimit (whole_of f₀) f₀ f₁ r (after_begin (whole_of f₀) ticks k left read (rest_of f₀)) refl (takes_below end ticks f₀ f₁ r is h)

  pub rest_takes : (b : ℕ) → Takes (below_at end) f₀ f₁ (Ok b) → true ≡ follows read b → (f₂ : Fields) (r : Result ℕ Fault) → Takes number_in f₁ f₂ r → (k : ℕ) → steps_left (whole_of f₀) ticks k (suc left) read (rest_of f₀) ≡ and_then r (λ s. after_rest (whole_of f₀) ticks k left read b (rest_of f₁) s (rest_of f₂))
  rest_takes b h above f₂ r g k =
      begin_takes (Ok b) h k ∙ tested_true (follows read b) OutOfOrder (whole_of f₀) (rest_of f₀) _ (sym above)
      ∙ number_takes (whole_of f₀) f₁ f₂ r (after_rest (whole_of f₀) ticks k left read b (rest_of f₁)) h.1 g

-- the next step, where `left` come after it
pub step_takes : (whole : List ℕ) (ticks left : ℕ) (n : ℕ) (now read : List Step) (before after : Fields) (r : Result Step Fault) → n ≡ suc left → now ≡ read → whole_of before ≡ whole → TakesStep ticks left now before after r
    → (k : ℕ) → steps_left whole ticks k n read (rest_of before) ≡ and_then r (λ s. steps_left whole ticks k left (read ++ (s ∷ [])) (rest_of after))
step_takes whole ticks left n now read before after r one is same t k =
    let P : List ℕ → List Step → Type 0 = λ w ss. steps_left w ticks k (suc left) ss (rest_of before) ≡ and_then r (λ s. steps_left w ticks k left (ss ++ (s ∷ [])) (rest_of after)) in
    rw one (subst (λ (ss : List Step). P whole ss) is (subst (λ (w : List ℕ). P w now) same (t.goes_on k)))

-- what is described by the three numbers in front of the steps, and what follows them
abbrev pub after_step_count : List ℕ → ℕ → ℕ → List ℕ → Result Squeeze Fault
after_step_count whole ticks m rest = number whole rest (λ k r. tested (within 1 32 k) OutsideLimit whole rest (steps_left whole ticks k m [] r))

abbrev pub after_ticks : List ℕ → ℕ → List ℕ → Result Squeeze Fault
after_ticks whole ticks rest = number whole rest (λ m r. tested (within 1 32 m) OutsideLimit whole rest (after_step_count whole ticks m r))

module _ (f₀ f₁ : Fields) where
  pub ticks_then : (r : Result ℕ Fault) → Takes (limited_at 2 36000) f₀ f₁ r → squeeze_fields (whole_of f₀) (rest_of f₀) ≡ and_then r (λ t. after_ticks (whole_of f₀) t (rest_of f₁))
  ticks_then r h = field_takes (within 2 36000) OutsideLimit (whole_of f₀) f₀ f₁ r (after_ticks (whole_of f₀)) refl h

module _ (f₀ f₁ f₂ : Fields) (t : ℕ) (h₁ : Takes (limited_at 2 36000) f₀ f₁ (Ok t)) where
  pub step_count_then : (r : Result ℕ Fault) → Takes (limited_at 1 32) f₁ f₂ r → squeeze_fields (whole_of f₀) (rest_of f₀) ≡ and_then r (λ m. after_step_count (whole_of f₀) t m (rest_of f₂))
  step_count_then r h = ticks_then f₀ f₁ (Ok t) h₁ ∙ field_takes (within 1 32) OutsideLimit (whole_of f₀) f₁ f₂ r (after_step_count (whole_of f₀) t) h₁.1 h

module _ (f₀ f₁ f₂ f₃ : Fields) (t m : ℕ) (h₁ : Takes (limited_at 2 36000) f₀ f₁ (Ok t)) (h₂ : Takes (limited_at 1 32) f₁ f₂ (Ok m)) where
  pub turn_count_then : (r : Result ℕ Fault) → Takes (limited_at 1 32) f₂ f₃ r → squeeze_fields (whole_of f₀) (rest_of f₀) ≡ and_then r (λ k. steps_left (whole_of f₀) t k m [] (rest_of f₃))
  turn_count_then r h =
      step_count_then f₀ f₁ f₂ t h₁ (Ok m) h₂
      ∙ field_takes (within 1 32) OutsideLimit (whole_of f₀) f₂ f₃ r (λ k rest. steps_left (whole_of f₀) t k m [] rest) (h₂.1 ∙ h₁.1) h

  -- then come the steps, the turns and the end
  module _ (k : ℕ) (h₃ : Takes (limited_at 1 32) f₂ f₃ (Ok k)) (f₄ : Fields) where
    same : whole_of f₃ ≡ whole_of f₀
    same = h₃.1 ∙ h₂.1 ∙ h₁.1

    pub steps_then : (r : Result (Bounded Step 32) Fault) → TakesSteps t m f₃ f₄ r → squeeze_fields (whole_of f₀) (rest_of f₀) ≡ and_then r (λ ss. turns_left (whole_of f₀) t (list_of ss) k [] (rest_of f₄))
    steps_then r h =
        turn_count_then (Ok k) h₃
        ∙ subst (λ (w : List ℕ). steps_left w t k m [] (rest_of f₃) ≡ and_then r (λ ss. turns_left w t (list_of ss) k [] (rest_of f₄))) same (h.goes_on k)

    module _ (ss : Bounded Step 32) (h₄ : TakesSteps t m f₃ f₄ (Ok ss)) (f₅ : Fields) where
      pub turns_then : (r : Result (Bounded ℕ 32) Fault) → TakesTurns t k f₄ f₅ r → squeeze_fields (whole_of f₀) (rest_of f₀) ≡ and_then r (λ rs. ended (whole_of f₀) (rest_of f₅) (record { ticks = t; steps = list_of ss; turns = list_of rs }))
      turns_then r h =
          steps_then (Ok ss) h₄
          ∙ subst (λ (w : List ℕ). turns_left w t (list_of ss) k [] (rest_of f₄) ≡ and_then r (λ rs. ended w (rest_of f₅) (record { ticks = t; steps = list_of ss; turns = list_of rs }))) (h₄.whole ∙ same) (h.goes_on (list_of ss))

      pub all_then : (rs : Bounded ℕ 32) (r : Result (Unit {0}) Fault) → TakesTurns t k f₄ f₅ (Ok rs) → r ≡ ended (whole_of f₅) (rest_of f₅) (tt {0}) → squeeze_fields (whole_of f₀) (rest_of f₀) ≡ and_then r (λ u. Ok (record { ticks = t; steps = list_of ss; turns = list_of rs }))
      all_then rs r h e =
          turns_then (Ok rs) h
          ∙ ap (λ w. ended w (rest_of f₅) (record { ticks = t; steps = list_of ss; turns = list_of rs })) (sym (h.whole ∙ h₄.whole ∙ same))
          ∙ ended_then (whole_of f₅) (rest_of f₅) _
          ∙ ap (λ q. and_then q (λ u. Ok (record { ticks = t; steps = list_of ss; turns = list_of rs }))) (sym e)
