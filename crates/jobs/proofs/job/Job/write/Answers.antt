use Rattle.std.proofs.Common.{◌≡◌, sym, ap, ◌∙◌, subst, option_copied}
use Rattle.records.specs.Contents.{Contents, plan_with}
use Rattle.jobs.proofs.Holding.{EndsIn}
use Rattle.jobs.proofs.Telling.{Wrote, plan_recorded}
use Rattle.jobs.proofs.job.Job.write.Goals as goal

pub returns : goal.returns
returns g c =
    let j = c.args.self.now in
    let m = g.F.Feeder.motion j.feeder in
    let held = sym c.plan_actions.ensures.stored ∙ ap option_copied c.in_ok-list.ensures.ok_part in
    let ends = subst (EndsIn m j) c.in_ok-end.ensures.ok_part c.end_pose.ensures in
    let n = c.poses-poses.ensures in
    let k = c.actions-actions.ensures in
    let same : plan_with c.poses-poses.result c.actions-actions.result c.in_ok-end.end c.in_ok-list.list.now ≡ plan_with m.poses m.actions c.in_ok-end.end c.in_ok-list.list.now = cc in
    let e = c.write.ensures in
    plan_recorded m (g.F.Feeder.valid j.feeder) j c.in_ok-list.list.now held c.in_ok-end.end ends c.args.buffer.now c.write.new.buffer c.write.result (subst (λ (x : Contents). Wrote x c.args.buffer.now c.write.new.buffer c.write.result) same (record { leaves = e.leaves; counts = e.counts; back = e.back }))
