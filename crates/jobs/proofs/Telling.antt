-- What is written of the plan that a job holds: its record and its trace.
use Rattle.std.proofs.Common.{◌≡◌, ℕ, ◌+◌, ◌*◌, ◌^◌, ◌≤◌, true, List, ◌++◌, length, take, drop, IfOk, Some, Ok, Err, Result, sym, ap, ◌∙◌, subst, inl, inr, arith}
use Rattle.std.proofs.lemmas.Bool.{cases_lt, lt-ltb}
use Rattle.refusals.specs.Outcomes.{Leaves}
use Rattle.refusals.specs.declared.Refusal.{Refusal}
use Rattle.feeders.specs.Motion.{Motion, Valid}
use Rattle.feeders.specs.Sets.{all_below}
use Rattle.feeders.specs.Image.{image, imaged}
use Rattle.feeders.proofs.Sets.{true_of_T}
use Rattle.feeders.proofs.Images.{imaged_ok}
use Rattle.records.specs.Contents.{Contents, plan_with, fits}
use Rattle.records.specs.Format.{spell}
use Rattle.records.specs.Reading.{record_at}
use Rattle.records.specs.Writing.{written}
use Rattle.records.proofs.Limits.{fits_from_limits}
use Rattle.records.proofs.Writes.{length-spell, written_there, written_no_room}
use Rattle.traces.specs.Trace.{traced}
use Rattle.traces.proofs.Outcomes.{traced_ok, traced_too_short}
use Rattle.histories.specs.Rules.{Plans}
use Rattle.histories.specs.declared.call.Call.{Call}
use Rattle.histories.proofs.Words.{permitted_known}
use Rattle.histories.proofs.Orienting.{end_below}
use Rattle.jobs.specs.Reach.{plan_of, Reached}
use Rattle.jobs.specs.Tells.{Tells, Recorded, Writes, TracedList, Traces}
use Rattle.jobs.specs.declared.job.Job.{Job}
use Rattle.jobs.proofs.Holding.{EndsIn, held_short, was, end_known}
use Rattle.jobs.proofs.Making.{poses_below}

-- ---- the record

-- what the writer of records says of the contents c
pub record Wrote (c : Contents) (before after : List ℕ) (r : Result ℕ Refusal) : Type 0 where
  pub leaves : Leaves (λ b. b) (written c before) before after r
  pub counts : IfOk r (λ n. n ≡ length (spell c))
  pub back : IfOk r (λ n. record_at (take n after) ≡ Ok c)

-- a plan within the limits is written, unless the buffer is too short
pub recorded : (c : Contents) → fits c ≡ true → length c.list ≤ 16384 → (before after : List ℕ) (r : Result ℕ Refusal) → Wrote c before after r → Recorded c before after r
recorded c inside short before after (Ok n) wrote = elim (cases_lt (4 + length c.list) (length before)) [
  | inl room ↦
      let there = written_there c before inside short room in
      let leaves : after ≡ spell c ++ drop (length (spell c)) before = cc in
      (wrote.counts, leaves ∙ ap (λ (k : ℕ). spell c ++ drop k before) (sym wrote.counts), wrote.back)
  | inr tight ↦ let none = written_no_room c before inside short tight in absurd (cc)
]
recorded c inside short before after (Err e) wrote = elim (cases_lt (4 + length c.list) (length before)) [
  | inl room ↦ let there = written_there c before inside short room in absurd (cc)
  | inr tight ↦ let none = written_no_room c before inside short tight in (cc, omega (arith, length-spell c), wrote.leaves.1)
]

module _ {F : Type 0} (m : Motion) (ok : Valid m) (j : Job F) (w : List ℕ) (held : plan_of j ≡ Some w) where
  pub plan_recorded : (e : ℕ) → EndsIn m j (Some e) → (before after : List ℕ) (r : Result ℕ Refusal) → Wrote (plan_with m.poses m.actions e w) before after r → Tells m j (λ h plan. Writes m h before after r plan)
  plan_recorded e ends before after r wrote h plan R =
      let c = plan_with m.poses m.actions e w in
      let p = was m ok j w held h plan R in
      let ends-there = end_known m ok j w held e ends h plan R in
      let inside = fits_from_limits c (record {
        some_pose = ok.some_pose;
        few_poses = ok.few_poses;
        some_action = ok.some_action;
        few_actions = ok.few_actions;
        end_there = end_below m ok h 0 e w ok.some_pose p.1 ends-there;
        all_there = permitted_known m h w p.1.0;
      }) in
      subst (Writes m h before after r) (sym p.0) (e, ends-there, recorded c (true_of_T (fits c) inside) (held_short j w held) before after r wrote)

  -- ---- the trace

  -- the plan of a job that calls can make has actions of the feeder, and its poses are poses of the feeder
  plan_imaged : (h : List Call) (plan : Plans) → Reached m h plan j → imaged m j.poses w ≡ Ok (image m j.poses w)
  plan_imaged h plan R =
      imaged_ok m j.poses w (lt-ltb j.poses (2 ^ m.poses) (poses_below m ok j h plan R)) (true_of_T (all_below m.actions w) (permitted_known m h w (was m ok j w held h plan R).1.0))

  pub plan_not-traced : (before after : List ℕ) (e : Refusal) → traced m j.poses w before ≡ Err e → after ≡ before → Tells m j (λ h plan. Traces m h before after (Err e) plan)
  plan_not-traced before after e refused same h plan R =
      let s = j.poses in
      let im = plan_imaged h plan R in
      let trace : TracedList m h w before after (Err e) = elim (cases_lt (length before) (12 * (length w + 1))) [
        | inl l ↦ let short = traced_too_short m s w before (image m s w) im (omega arith) in (cc, l, same)
        | inr g ↦ let done = traced_ok m s w before (image m s w) im g in absurd (cc)
      ] in
      subst (Traces m h before after (Err e)) (sym (was m ok j w held h plan R).0) trace
