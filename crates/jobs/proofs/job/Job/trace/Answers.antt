use Rattle.std.proofs.Common.{sym, ap, ◌∙◌, option_copied}
use Rattle.std.proofs.lemmas.Result.{err_from_is_err_and}
use Rattle.jobs.proofs.Telling.{plan_not-traced}
use Rattle.jobs.proofs.job.Job.trace.Goals as goal

pub returns-in_err-write_trace-clause-told : goal.returns-in_err-write_trace-clause-told
returns-in_err-write_trace-clause-told g c =
    let j = c.args.self.now in
    let told = c.in_err-write_trace.ensures.written in
    let p = err_from_is_err_and c.from_residual-in_err-write_trace.result c.from_residual-in_err-write_trace.ensures.1 in
    let held = sym c.plan_actions.ensures.stored ∙ ap option_copied c.in_ok-list.ensures.ok_part in
    rw (p.1, p.2) (plan_not-traced (g.F.Feeder.motion j.feeder) (g.F.Feeder.valid j.feeder) j c.in_ok-list.list.now held _ _ _ told.0 told.1)
