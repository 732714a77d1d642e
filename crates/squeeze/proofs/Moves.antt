-- The move of a squeeze table, from the step and the turn that it has in its lists.
use Rattle.std.proofs.Common.{◌≡◌, ℕ, ◌+◌, ◌*◌, ◌%◌, ◌<◌, length, ltb, get_or, Some, Ok, sym, ap, ◌∙◌, arith}
use Rattle.std.specs.List.{slice_get}
use Rattle.std.proofs.lemmas.Bool.{cond-true, lt-ltb}
use Rattle.std.proofs.lemmas.Option.{get_or_from_slice_get, slice_get_within}
use Rattle.feeders.specs.Motion.{follows}
use Rattle.squeeze.specs.declared.step.Step.{Step}
use Rattle.squeeze.specs.Squeeze.{Squeeze, Keeps, blank, rest, step_of, squeeze_motion}
use Rattle.squeeze.proofs.Rule.{rest_low}

module _ (t : Squeeze) (pose action : ℕ) (step : Step) (turn : ℕ) (at : slice_get t.steps pose ≡ Some step) (by : slice_get t.turns action ≡ Some turn) where
  here : rest t.steps pose ≡ step.rest
  here = ap (λ s. s.rest) (get_or_from_slice_get t.steps pose step blank at)

  there : get_or t.turns action 0 ≡ turn
  there = get_or_from_slice_get t.turns action turn 0 by

  pub moves : (r : ℕ) → r ≡ step_of t.steps ((step.rest + turn) % t.ticks) → Ok r ≡ follows (squeeze_motion t) pose action
  moves r is =
      let next : r ≡ (squeeze_motion t).next pose action = rw (here, there) is in
      ap Ok next
      ∙ sym (cond-true (ltb pose (length t.steps)) _ _ (lt-ltb pose _ (slice_get_within t.steps pose step at))
      ∙ cond-true (ltb action (length t.turns)) _ _ (lt-ltb action _ (slice_get_within t.turns action turn by)))

  -- no rest reaches two half turns, and no turn one
  pub sum_low : Keeps t → step.rest + turn < 3 * t.ticks
  sum_low k =
      let low = rest_low t.ticks t.steps (record { begins = k.begins; rests = k.rests; rises = k.rises }) k.last pose (slice_get_within t.steps pose step at) in
      omega (arith, here, there, low, k.turns action (slice_get_within t.turns action turn by))
