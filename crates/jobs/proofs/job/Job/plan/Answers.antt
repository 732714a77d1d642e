use Rattle.std.proofs.Common.{Some, refl, ap}
use Rattle.plans.specs.Held.{list_of}
use Rattle.histories.specs.declared.call.Call.TheVariants.{Plan}
use Rattle.jobs.proofs.Making.{handed_on}
use Rattle.jobs.proofs.Holding.{plan_refused, plan_performed}
use Rattle.jobs.proofs.job.Job.plan.Goals as goal

pub returns-in_err-plan_pairs : goal.returns-in_err-plan_pairs
returns-in_err-plan_pairs g c =
    let j = c.args.self.now in
    let m = g.F.Feeder.motion j.feeder in
    let ok = g.F.Feeder.valid j.feeder in
    let told = c.in_err-plan_pairs.ensures.planned in
    handed_on m ok j Plan _ _ _ c.from_residual.ensures.1 told.1 (plan_refused m ok j _ told.0)

pub returns : goal.returns
returns g c =
    let j = c.args.self.now in
    plan_performed (g.F.Feeder.motion j.feeder) (g.F.Feeder.valid j.feeder) j _ (list_of c.plan_pairs.new.plan) _ c.in_ok-plan_pairs.ensures.planned.1 refl refl refl refl (ap Some c.len.ensures.counts)
