-- What a job tells of itself, in the words of the calls that led to it. None of this changes the job, and none of it is handling.
use Rattle.std.specs.Prelude.{◌≡◌, ℕ, ◌+◌, ◌*◌, ◌^◌, ◌<◌, List, ◌++◌, length, take, drop, Some, None, Ok, Err, Option, Result}
use Rattle.std.specs.Borrow.{Bor}
use Rattle.refusals.specs.declared.Refusal.{Refusal}
use Rattle.refusals.specs.declared.Refusal.TheVariants.{NoPlan, BufferTooShort}
use Rattle.feeders.specs.Motion.{Motion}
use Rattle.feeders.specs.Image.{image}
use Rattle.records.specs.Contents.{Contents, plan_with}
use Rattle.records.specs.Format.{spell}
use Rattle.records.specs.Reading.{record_at}
use Rattle.traces.specs.Trace.{trace_of}
use Rattle.histories.specs.History.{possible}
use Rattle.histories.specs.Rules.{Plans}
use Rattle.histories.specs.declared.call.Call.{Call}
use Rattle.jobs.specs.Reach.{Reached}
use Rattle.jobs.specs.declared.job.Job.{Job}

-- Whatever calls led to the job, P holds of them and of the plan that they make.
abbrev pub Tells : {F : Type 0} → Motion → Job F → (List Call → Plans → Type 0) → Type 0
Tells m j P = (h : List Call) (plan : Plans) → Reached m h plan j → P h plan

-- the actions of the plan that is held
abbrev pub Actions : Plans → Option (Bor (List ℕ)) → Type 0
Actions plan None = plan ≡ None
Actions plan (Some list) = plan ≡ Some list.now

-- the pose to which the plan brings the possible poses; none where no plan is held
abbrev pub EndPose : Motion → List Call → Plans → Option ℕ → Type 0
EndPose m h None r = r ≡ None
EndPose m h (Some w) r = (e : ℕ) × (r ≡ Some e) × (image m (possible m h) w ≡ 2 ^ e)

-- The record of a plan is written to the front of a buffer, which reads back as that plan; or the buffer is too short for it, and stays as it was.
abbrev pub Recorded : Contents → List ℕ → List ℕ → Result ℕ Refusal → Type 0
Recorded c before after (Ok n) = (n ≡ length (spell c)) × (after ≡ spell c ++ drop n before) × (record_at (take n after) ≡ Ok c)
Recorded c before after (Err e) = (e ≡ BufferTooShort) × (length before < length (spell c)) × (after ≡ before)

-- The held plan is written as a record, with n, k and its end pose; refused where none is held.
abbrev pub Writes : Motion → List Call → List ℕ → List ℕ → Result ℕ Refusal → Plans → Type 0
Writes m h before after r None = (r ≡ Err NoPlan) × (after ≡ before)
Writes m h before after r (Some w) = (e : ℕ) × (image m (possible m h) w ≡ 2 ^ e) × Recorded (plan_with m.poses m.actions e w) before after r

-- The trace of a list from the possible poses is written to the front of a buffer; or the buffer is too short for it, and stays as it was.
abbrev pub TracedList : Motion → List Call → List ℕ → List ℕ → List ℕ → Result ℕ Refusal → Type 0
TracedList m h w before after (Ok n) = (n ≡ length w) × (after ≡ trace_of m (possible m h) w ++ drop (12 * (length w + 1)) before)
TracedList m h w before after (Err e) = (e ≡ BufferTooShort) × (length before < 12 * (length w + 1)) × (after ≡ before)

-- The held plan is traced; refused where none is held.
abbrev pub Traces : Motion → List Call → List ℕ → List ℕ → Result ℕ Refusal → Plans → Type 0
Traces m h before after r None = (r ≡ Err NoPlan) × (after ≡ before)
Traces m h before after r (Some w) = TracedList m h w before after r
