-- What comes of a trace of poses and actions that there are, by the room.
use Rattle.std.proofs.Common.{◌≡◌, ℕ, ◌+◌, ◌*◌, ◌/◌, ◌≤◌, List, ◌++◌, length, drop, Ok, Err, arith}
use Rattle.std.proofs.lemmas.Bool.Decides.{nat_tests}
use Rattle.refusals.specs.declared.Refusal.TheVariants.{BufferTooShort}
use Rattle.feeders.specs.Motion.{Motion}
use Rattle.feeders.specs.Image.{imaged}
use Rattle.traces.specs.Trace.{trace_of, traced}

module _ (m : Motion) (s : ℕ) (w buffer : List ℕ) (t : ℕ) (imaged_ok : imaged m s w ≡ Ok t) where
  pub traced_too_short : length buffer / 12 ≤ length w → traced m s w buffer ≡ Err BufferTooShort
  traced_too_short h = grind (arith, nat_tests)

  pub traced_ok : 12 * (length w + 1) ≤ length buffer → traced m s w buffer ≡ Ok (trace_of m s w ++ drop (12 * (length w + 1)) buffer)
  traced_ok h = grind (arith, nat_tests)
