use Rattle.std.proofs.Common.{[], ◌∷◌, refl, ap, ◌∙◌, sym}
use Rattle.feeders.proofs.Sets.{all_below_one}
use Rattle.histories.specs.Rules.{advanced}
use Rattle.histories.specs.declared.call.Call.TheVariants.{Step}
use Rattle.jobs.specs.Reach.{plan_of}
use Rattle.jobs.proofs.Checking.{checked_ok, brought_image}
use Rattle.jobs.proofs.Making.{handed_on, step_refused, step_performed}
use Rattle.jobs.proofs.job.Job.step.Goals as goal

pub returns-in_err-a : goal.returns-in_err-a
returns-in_err-a g c =
    let j = c.args.self.now in
    let m = g.F.Feeder.motion j.feeder in
    let ok = g.F.Feeder.valid j.feeder in
    handed_on m ok j (Step c.args.action) j.plan _ _ c.from_residual.ensures.1 refl (step_refused m ok j c.args.action _ (sym c.in_err-a.ensures))

pub returns : goal.returns
returns g c =
    let j = c.args.self.now in
    let m = g.F.Feeder.motion j.feeder in
    let a = c.args.action in
    let known = checked_ok m j.allowed a c.in_ok-a.a (sym c.in_ok-a.ensures) in
    let e = c.advance.ensures in
    step_performed m (g.F.Feeder.valid j.feeder) j c.advance.new.self a c.plan_len.result known.1 e.feeder e.allowed
    (λ below. e.poses ∙ c.brought-self.ensures ∙ rw known.2 (brought_image m j.poses (a ∷ []) below ((all_below_one m.actions a).1 known.0)))
    (e.plan ∙ ap (advanced (plan_of j)) known.2) c.plan_len.ensures.stored
