use Rattle.std.proofs.Common.{sym, ap, ◌∙◌}
use Rattle.sessions.specs.Served.{called_by}
use Rattle.sessions.proofs.Serving.{call_refused}
use Rattle.sessions.proofs.service.do_request.Goals as goal

pub returns-in_err-perform-clause-done : goal.returns-in_err-perform-clause-done
returns-in_err-perform-clause-done g c =
    let j = c.args.job.now in
    let is = ap called_by c.in_ok-request.ensures.ok_part ∙ sym c.in-Some.ensures in
    call_refused (g.F.Feeder.motion j.feeder) j c.perform.new.self c.args.request c.in-Some.call is c.args.buffer.now _ _ c.from_residual-in_err-perform.ensures.1 c.in_err-perform.ensures.leads
