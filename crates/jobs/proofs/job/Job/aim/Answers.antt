use Rattle.std.proofs.Common.{Some, refl, ap, subst}
use Rattle.histories.specs.declared.call.Call.TheVariants.{Aim}
use Rattle.jobs.proofs.Making.{handed_on, missing}
use Rattle.jobs.proofs.Holding.{EndsIn, aim_none, aim_refused, aim_performed}
use Rattle.jobs.proofs.job.Job.aim.Goals as goal

pub returns-in_err-end : goal.returns-in_err-end
returns-in_err-end g c =
    let j = c.args.self.now in
    let m = g.F.Feeder.motion j.feeder in
    let ok = g.F.Feeder.valid j.feeder in
    missing m ok j (Aim c.args.pose) c.end_pose.result _ _ _ c.from_residual.ensures.1 c.in_err-end.ensures.value (λ e. aim_none m ok j c.args.pose (subst (EndsIn m j) e c.end_pose.ensures))

pub returns-in_err-append_way_to : goal.returns-in_err-append_way_to
returns-in_err-append_way_to g c =
    let j = c.args.self.now in
    let m = g.F.Feeder.motion j.feeder in
    let ok = g.F.Feeder.valid j.feeder in
    let ends = subst (EndsIn m j) c.in_ok-end.ensures.ok_part c.end_pose.ensures in
    let told = c.in_err-append_way_to.ensures.aimed in
    handed_on m ok j (Aim c.args.pose) _ _ _ c.from_residual-in_err-append_way_to.ensures.1 told.1 (aim_refused m ok j c.in_ok-end.end ends c.args.pose told.0)

pub returns : goal.returns
returns g c =
    let j = c.args.self.now in
    let m = g.F.Feeder.motion j.feeder in
    let ends = subst (EndsIn m j) c.in_ok-end.ensures.ok_part c.end_pose.ensures in
    let told = c.in_ok-append_way_to.ensures.aimed in
    aim_performed m (g.F.Feeder.valid j.feeder) j c.in_ok-end.end ends _ c.args.pose _ told.2.0 told.0 told.2.1 told.2.2 refl refl refl refl (ap Some c.len.ensures.counts)
