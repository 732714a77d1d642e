-- The sheet of a squeeze table: 1, the ticks T, the number of steps m, the number of turns k, then m times begin and rest, then k turns.
use Rattle.std.specs.Prelude.{ℕ, zero, suc, ◌+◌, Bool, true, false, cond, List, [], ◌∷◌, ◌++◌, length, Result, ◌==◌, nat_le, nat_lt}
use Rattle.refusals.specs.declared.Fault.{Fault}
use Rattle.refusals.specs.declared.Refusal.TheVariants.{OutsideLimit, OutOfOrder}
use Rattle.numbers.specs.Number.{spell}
use Rattle.numbers.specs.Grammar.{kinded, number, tested, ended, within}
use Rattle.squeeze.specs.declared.step.Step.{Step}
use Rattle.squeeze.specs.Squeeze.{Squeeze, begin}

-- The format: how a squeeze table is spelled.
abbrev pub spell_steps : List Step → List ℕ
spell_steps [] = []
spell_steps (s ∷ ss) = spell s.begin ++ (spell s.rest ++ spell_steps ss)

abbrev pub spell_turns : List ℕ → List ℕ
spell_turns [] = []
spell_turns (r ∷ rs) = spell r ++ spell_turns rs

abbrev pub spell_squeeze : Squeeze → List ℕ
spell_squeeze t =
    1 ∷ (spell t.ticks ++ (spell (length t.steps) ++ (spell (length t.turns) ++ (spell_steps t.steps ++ spell_turns t.turns))))

-- What comes of any bytes: each field is tested as it is read.
-- the turns still to come, after those read: each is below T
abbrev pub turns_left : List ℕ → ℕ → List Step → ℕ → List ℕ → List ℕ → Result Squeeze Fault
turns_left whole ticks steps zero read rest = ended whole rest (record { ticks = ticks; steps = steps; turns = read })
turns_left whole ticks steps (suc left) read rest =
    number whole rest (λ r r₁. tested (nat_lt r ticks) OutsideLimit whole rest (turns_left whole ticks steps left (read ++ (r ∷ [])) r₁))

-- a beginning b after the steps read: it is above the last rest
abbrev pub follows : List Step → ℕ → Bool
follows [] b = true
follows (s ∷ []) b = nat_lt s.rest b
follows (s ∷ (s₁ ∷ ss)) b = follows (s₁ ∷ ss) b

-- the rest s of a step that begins at b: not below b and, where it is the last step, below T + b(0)
abbrev pub settles : ℕ → ℕ → List Step → ℕ → ℕ → Bool
settles ticks left read b s =
    cond (nat_le b s) (cond (left == 0) (nat_lt s (ticks + begin (read ++ (record { begin = b; rest = s } ∷ [])) 0)) true) false

-- the steps still to come, after those read; then k turns
abbrev pub steps_left : List ℕ → ℕ → ℕ → ℕ → List Step → List ℕ → Result Squeeze Fault
steps_left whole ticks k zero read rest = turns_left whole ticks read k [] rest
steps_left whole ticks k (suc left) read rest =
    number whole rest (λ b r₁. tested (nat_lt b ticks) OutsideLimit whole rest
    (tested (follows read b) OutOfOrder whole rest
    (number whole r₁ (λ s r₂. tested (settles ticks left read b s) OutOfOrder whole r₁
    (steps_left whole ticks k left (read ++ (record { begin = b; rest = s } ∷ [])) r₂)))))

abbrev pub squeeze_fields : List ℕ → List ℕ → Result Squeeze Fault
squeeze_fields whole rest =
    number whole rest (λ ticks r₁. tested (within 2 36000 ticks) OutsideLimit whole rest
    (number whole r₁ (λ m r₂. tested (within 1 32 m) OutsideLimit whole r₁
    (number whole r₂ (λ k r₃. tested (within 1 32 k) OutsideLimit whole r₂
    (steps_left whole ticks k m [] r₃))))))

abbrev pub squeeze_sheet : List ℕ → Result Squeeze Fault
squeeze_sheet whole = kinded 1 whole (squeeze_fields whole)
