-- How the sheet reader goes on: what comes of the fields before a part comes of what the part gave and the fields after it.
use Rattle.std.specs.Prelude.{◌≡◌, ℕ, suc, List, [], ◌∷◌, ◌++◌, Result}
use Rattle.refusals.specs.declared.Fault.{Fault}
use Rattle.lists.specs.declared.bounded.Bounded.{Bounded}
use Rattle.lists.specs.Held.{list_of}
use Rattle.numbers.specs.declared.fields.Fields.{Fields}
use Rattle.numbers.specs.Field.{and_then, rest_of, whole_of}
use Rattle.numbers.specs.Grammar.{ended}
use Rattle.squeeze.specs.declared.step.Step.{Step}
use Rattle.squeeze.specs.Sheet.{turns_left, steps_left}

-- a step after those read, with `left` steps to come after it; whatever the number k of turns
pub record TakesStep (ticks left : ℕ) (read : List Step) (before after : Fields) (r : Result Step Fault) : Type 0 where
  pub whole : whole_of after ≡ whole_of before
  pub goes_on : (k : ℕ) → steps_left (whole_of before) ticks k (suc left) read (rest_of before) ≡ and_then r (λ s. steps_left (whole_of before) ticks k left (read ++ (s ∷ [])) (rest_of after))

-- count steps, whatever the number k of turns after them
pub record TakesSteps (ticks count : ℕ) (before after : Fields) (r : Result (Bounded Step 32) Fault) : Type 0 where
  pub whole : whole_of after ≡ whole_of before
  pub goes_on : (k : ℕ) → steps_left (whole_of before) ticks k count [] (rest_of before) ≡ and_then r (λ ss. turns_left (whole_of before) ticks (list_of ss) k [] (rest_of after))

-- count turns, whatever the steps before them; then nothing is left
pub record TakesTurns (ticks count : ℕ) (before after : Fields) (r : Result (Bounded ℕ 32) Fault) : Type 0 where
  pub whole : whole_of after ≡ whole_of before
  pub goes_on : (steps : List Step) → turns_left (whole_of before) ticks steps count [] (rest_of before) ≡ and_then r (λ rs. ended (whole_of before) (rest_of after) (record { ticks = ticks; steps = steps; turns = list_of rs }))
