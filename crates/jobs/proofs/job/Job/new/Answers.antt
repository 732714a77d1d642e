use Rattle.std.proofs.Common.{rules, refl}
use Rattle.jobs.proofs.Making.{new_reached}
use Rattle.jobs.proofs.job.Job.new.Goals as goal

pub returns-clause-reached : goal.returns-clause-reached
returns-clause-reached g c =
    let m = g.F.Feeder.motion c.args.feeder in
    let ok = g.F.Feeder.valid c.args.feeder in
    new_reached m ok _ (search rules) (search rules) refl
