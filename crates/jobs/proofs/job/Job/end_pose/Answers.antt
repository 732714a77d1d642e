use Rattle.std.proofs.Common.{sym}
use Rattle.jobs.proofs.Holding.{ends_in}
use Rattle.jobs.proofs.job.Job.end_pose.Goals as goal

pub returns : goal.returns
returns g c =
    let j = c.args.self.now in
    ends_in (g.F.Feeder.motion j.feeder) (g.F.Feeder.valid j.feeder) j c.in_ok-list.list.now (sym c.in_ok-list.ensures.stored) c.end_of.result c.end_of.ensures
