-- What a line of a script does on a job, and what a whole script does.
use Rattle.std.specs.Prelude.{◌≡◌, ℕ, ◌+◌, ◌*◌, List, [], ◌∷◌, Some, None, Ok, Err, Option, Result}
use Rattle.std.specs.Result.{result_err, result_unwrap_or}
use Rattle.refusals.specs.declared.Refusal.{Refusal}
use Rattle.refusals.specs.declared.Refusal.TheVariants.{OutsideLimit}
use Rattle.feeders.specs.Motion.{Motion}
use Rattle.scripts.specs.Reading.{request_of}
use Rattle.scripts.specs.Split.{lines_of}
use Rattle.scripts.specs.declared.request.Request.{Request}
use Rattle.scripts.specs.declared.request.Request.TheVariants.{Bar, Allow, Shake, Step, Plan, Add, Cut, Aim, Trace}
use Rattle.histories.specs.Rules.{Plans, Answer, length_of, Rule}
use Rattle.histories.specs.Promise.{Sure}
use Rattle.histories.specs.declared.call.Call.{Call}
use Rattle.histories.specs.declared.call.Call.TheVariants as call
use Rattle.jobs.specs.Reach.{Reached}
use Rattle.jobs.specs.Tells.{Traces}
use Rattle.jobs.specs.declared.job.Job.{Job}
use Rattle.sessions.specs.declared.reply.Reply.{Reply}

-- the call that a request makes; a trace makes none
abbrev pub call_of : Request → Option Call
call_of (Bar a) = Some (call.Bar a)
call_of (Allow a) = Some (call.Allow a)
call_of Shake = Some call.Shake
call_of (Step a) = Some (call.Step a)
call_of Plan = Some call.Plan
call_of (Add a) = Some (call.Add a)
call_of (Cut n) = Some (call.Cut n)
call_of (Aim q) = Some (call.Aim q)
call_of Trace = None

-- the history with a call, if there is one
abbrev pub with_call : Option Call → List Call → List Call
with_call None h = h
with_call (Some c) h = c ∷ h

-- the call that a line makes; a line of another form makes none
abbrev pub called_by : Option Request → Option Call
called_by None = None
called_by (Some r) = call_of r

-- the history after some lines, and after a whole script
abbrev pub after_lines : List (List ℕ) → List Call → List Call
after_lines [] h = h
after_lines (line ∷ more) h = after_lines more (with_call (called_by (request_of line)) h)

abbrev pub history_of : List ℕ → List Call
history_of script = after_lines (lines_of script) []

-- the bytes of the rows of an accepted trace
abbrev pub rows_in : Result ℕ Refusal → ℕ
rows_in (Ok n) = 12 * (n + 1)
rows_in (Err e) = 0

-- What a line is answered by, after the history h with `plan` held, which leaves the plan `next`: a call by the rules and surely.
abbrev pub Called : Motion → List Call → Plans → Plans → Option Call → Option Refusal → Type 0
Called m h plan next None refusal = Unit {0}
Called m h plan next (Some c) refusal = (r : Answer) × Rule m h plan c next r × Sure m h c plan next r × (refusal ≡ result_err r)

-- A line of another form is a value outside its limit. A trace writes rows. Any other line writes nothing.
abbrev pub Written : Motion → List Call → Plans → Option Request → Option Refusal → ℕ → List ℕ → List ℕ → Type 0
Written m h plan None refusal rows before after = (refusal ≡ Some OutsideLimit) × (rows ≡ 0) × (after ≡ before)
Written m h plan (Some Trace) refusal rows before after = (r : Result ℕ Refusal) × Traces m h before after r plan × (refusal ≡ result_err r) × (rows ≡ rows_in r)
Written m h plan (Some _) refusal rows before after = (rows ≡ 0) × (after ≡ before)

-- What a line that makes the request q, or none, does on a job that the calls h led to, with `plan` held:
-- it leaves the job k, and `after` in the buffer.
pub record Served {F : Type 0} (m : Motion) (h : List Call) (plan : Plans) (q : Option Request) (k : Job F) (before after : List ℕ) (r : Reply) : Type 0 where
  pub request : r.request ≡ q
  -- the plan that is held afterwards
  pub next : Plans
  pub reached : Reached m (with_call (called_by q) h) next k
  pub told : r.plan ≡ length_of next
  pub called : Called m h plan next (called_by q) r.refusal
  pub written : Written m h plan q r.refusal r.rows before after

-- ---- the word of a private function

-- The same of what a request does, or none, where r is how many bytes of rows there are, or the refusal.
pub record Done {F : Type 0} (m : Motion) (h : List Call) (plan : Plans) (q : Option Request) (k : Job F) (before after : List ℕ) (r : Result ℕ Refusal) : Type 0 where
  pub next : Plans
  pub reached : Reached m (with_call (called_by q) h) next k
  pub called : Called m h plan next (called_by q) (result_err r)
  pub written : Written m h plan q (result_err r) (result_unwrap_or r 0) before after
