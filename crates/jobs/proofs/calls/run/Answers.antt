use Rattle.std.proofs.Common.{◌≡◌, ◌<◌, min, List, [], reverse, length, get_or, take, None, sym, refl, ap, ◌∙◌, subst, arith}
use Rattle.std.proofs.lemmas.List.{length-take, get_or-take, take_min}
use Rattle.histories.specs.declared.call.Call.{Call}
use Rattle.histories.specs.declared.call.Call.TheVariants.{Bar}
use Rattle.histories.proofs.Deciding.{determined}
use Rattle.jobs.specs.Reach.{Reached, Leads}
use Rattle.jobs.proofs.Running.{Ran, ran_none, ran_more}
use Rattle.jobs.proofs.calls.run.Goals as goal

pub loop-i-init : goal.loop-i-init
loop-i-init g c =
    let job = c.new-job.result in
    (refl, ran_none (g.F.Feeder.motion job.feeder) c.args.calls.now c.args.answers.now job (subst (λ f. Reached (g.F.Feeder.motion f) [] None job) (sym c.new-job.ensures.same) c.new-job.ensures.reached))

pub loop-i-preserved : goal.loop-i-preserved
loop-i-preserved g c =
    let calls = c.args.calls.now in
    let i = c.loop-i.i in
    let job = c.loop-i.job in
    let next = c.perform.new.self in
    let r = c.perform.result in
    let front : i < c.min-count.result = omega (arith, length-take c.min-count.result calls) in
    let lc : i < length calls = omega arith in
    let la : i < length c.loop-i.answers = omega arith in
    let leads = subst (λ (call : Call). Leads (g.F.Feeder.motion job.feeder) job call next r) (get_or-take c.min-count.result calls i (Bar 0) front) c.perform.ensures.leads in
    (c.perform.ensures.feeder_same ∙ c.loop-i.invariant.0, ran_more (g.F.Feeder.motion c.new-job.result.feeder) calls c.args.answers.now c.loop-i.answers i job next r lc la (subst (λ f. Leads (g.F.Feeder.motion f) job (get_or calls i (Bar 0)) next r) c.loop-i.invariant.0 leads) c.loop-i.invariant.1)

pub returns : goal.returns
returns g c =
    let calls = c.args.calls.now in
    let old = c.args.answers.now in
    let i = c.loop-i.i in
    let job = c.loop-i.job in
    let ran = subst (λ f. Ran (g.F.Feeder.motion f) calls old c.loop-i.answers i job) c.new-job.ensures.same c.loop-i.invariant.1 in
    let end : i ≡ min (length old) (length calls) = omega (arith, length-take c.min-count.result calls) in
    record {
      same = c.loop-i.invariant.0 ∙ c.new-job.ensures.same;
      each = λ k lc la. ran.placed k (omega arith);
      rest = λ k lc. ran.rest k (omega arith);
      reached = (ran.plan, subst (λ (x : List Call). Reached (g.F.Feeder.motion c.args.feeder) (reverse x) ran.plan job) (ap (λ n. take n calls) end ∙ take_min (length old) calls) ran.reached);
      determined = determined;
    }
