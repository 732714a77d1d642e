use Rattle.std.proofs.Common.{Some, refl, ap}
use Rattle.plans.specs.Held.{list_of}
use Rattle.histories.specs.declared.call.Call.TheVariants.{Cut}
use Rattle.jobs.proofs.Making.{handed_on, missing}
use Rattle.jobs.proofs.Holding.{plan_held, plan_gone, cut_none, cut_refused, cut_parts, cut_performed}
use Rattle.jobs.proofs.job.Job.cut.Goals as goal

pub returns-then-not-self : goal.returns-then-not-self
returns-then-not-self g c =
    let j = c.args.self.now in
    cut_none (g.F.Feeder.motion j.feeder) (g.F.Feeder.valid j.feeder) j (plan_gone j c.if-not-self.true) c.args.place

pub returns-in_err-remove : goal.returns-in_err-remove
returns-in_err-remove g c =
    let j = c.args.self.now in
    let m = g.F.Feeder.motion j.feeder in
    let ok = g.F.Feeder.valid j.feeder in
    handed_on m ok j (Cut c.args.place) j.plan _ _ c.from_residual.ensures.1 refl (cut_refused m ok j _ (plan_held j c.if-not-self.false) c.args.place _ c.in_err-remove.ensures.0)

pub returns-in_err-ok_or : goal.returns-in_err-ok_or
returns-in_err-ok_or g c =
    let j = c.args.self.now in
    let m = g.F.Feeder.motion j.feeder in
    let ok = g.F.Feeder.valid j.feeder in
    missing m ok j (Cut c.args.place) c.end_of.result _ _ _ c.from_residual-in_err-ok_or.ensures.1 c.in_err-ok_or.ensures.value (cut_parts m ok j _ (plan_held j c.if-not-self.false) c.args.place _ c.in_ok-remove.ensures c.end_of.result (rw c.as_slice.ensures at c.end_of.ensures))

pub returns : goal.returns
returns g c =
    let j = c.args.self.now in
    let m = g.F.Feeder.motion j.feeder in
    cut_performed m (g.F.Feeder.valid j.feeder) j _ (plan_held j c.if-not-self.false) c.args.place (list_of c.remove.new.self) c.in_ok-remove.ensures _ c.end_of.result c.in_ok-ok_or.field-0 _ (rw c.as_slice.ensures at c.end_of.ensures) c.in_ok-ok_or.ensures.ok_part refl refl refl c.if-not-self.false refl (ap Some c.len.ensures.counts)
