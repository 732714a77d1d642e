use Rattle.std.proofs.Common.{Some, sym, refl, ap, ◌∙◌}
use Rattle.plans.specs.Calls.{pushed}
use Rattle.plans.specs.Held.{list_of}
use Rattle.histories.specs.declared.call.Call.TheVariants.{Add}
use Rattle.jobs.proofs.Checking.{checked_ok}
use Rattle.jobs.proofs.Making.{handed_on}
use Rattle.jobs.proofs.Holding.{plan_held, plan_gone, add_none, add_refused, add_long, add-performed}
use Rattle.jobs.proofs.job.Job.add.Goals as goal

pub returns-then-not-self : goal.returns-then-not-self
returns-then-not-self g c =
    let j = c.args.self.now in
    add_none (g.F.Feeder.motion j.feeder) (g.F.Feeder.valid j.feeder) j (plan_gone j c.if-not-self.true) c.args.action

pub returns-in_err-usable : goal.returns-in_err-usable
returns-in_err-usable g c =
    let j = c.args.self.now in
    let m = g.F.Feeder.motion j.feeder in
    let ok = g.F.Feeder.valid j.feeder in
    handed_on m ok j (Add c.args.action) j.plan _ _ c.from_residual.ensures.1 refl (add_refused m ok j (list_of j.plan) (plan_held j c.if-not-self.false) c.args.action _ (sym c.in_err-usable.ensures))

pub returns-in_err-push : goal.returns-in_err-push
returns-in_err-push g c =
    let j = c.args.self.now in
    let m = g.F.Feeder.motion j.feeder in
    let ok = g.F.Feeder.valid j.feeder in
    let w = list_of j.plan in
    let known = checked_ok m j.allowed c.args.action _ (sym c.in_ok-usable.ensures) in
    let told = c.in_err-push.ensures in
    handed_on m ok j (Add c.args.action) _ _ _ c.from_residual-in_err-push.ensures.1 told.1 (add_long m ok j w (plan_held j c.if-not-self.false) c.args.action _ known.1 (ap (pushed w) (sym known.2) ∙ told.0))

pub returns : goal.returns
returns g c =
    let j = c.args.self.now in
    let m = g.F.Feeder.motion j.feeder in
    let w = list_of j.plan in
    let known = checked_ok m j.allowed c.args.action _ (sym c.in_ok-usable.ensures) in
    add-performed m (g.F.Feeder.valid j.feeder) j w (plan_held j c.if-not-self.false) _ c.args.action _ known.1 (ap (pushed w) (sym known.2) ∙ c.in_ok-push.ensures) refl refl refl c.if-not-self.false (ap Some c.len.ensures.counts)
