use Rattle.std.proofs.Common.{Some, sym, refl, ap}
use Rattle.histories.specs.declared.call.Call.TheVariants.{Put}
use Rattle.jobs.proofs.Making.{handed_on, missing}
use Rattle.jobs.proofs.Holding.{put_long, put_refused, put_parts, put-performed}
use Rattle.jobs.proofs.job.Job.put.Goals as goal

pub returns-then-list-gt-ROOM : goal.returns-then-list-gt-ROOM
returns-then-list-gt-ROOM g c =
    let j = c.args.self.now in
    put_long (g.F.Feeder.motion j.feeder) (g.F.Feeder.valid j.feeder) j c.args.list c.if-list-gt-ROOM.true

pub returns-in_err-all_usable : goal.returns-in_err-all_usable
returns-in_err-all_usable g c =
    let j = c.args.self.now in
    let m = g.F.Feeder.motion j.feeder in
    let ok = g.F.Feeder.valid j.feeder in
    handed_on m ok j (Put c.args.list) j.plan _ _ c.from_residual.ensures.1 refl (put_refused m ok j c.args.list c.if-list-gt-ROOM.false _ (sym c.in_err-all_usable.ensures))

pub returns-in_err-ok_or : goal.returns-in_err-ok_or
returns-in_err-ok_or g c =
    let j = c.args.self.now in
    let m = g.F.Feeder.motion j.feeder in
    let ok = g.F.Feeder.valid j.feeder in
    missing m ok j (Put c.args.list) c.end_of.result _ _ _ c.from_residual-in_err-ok_or.ensures.1 c.in_err-ok_or.ensures.value (put_parts m ok j c.args.list c.if-list-gt-ROOM.false c.end_of.result (sym c.in_ok-all_usable.ensures) c.end_of.ensures)

pub returns : goal.returns
returns g c =
    let j = c.args.self.now in
    put-performed (g.F.Feeder.motion j.feeder) (g.F.Feeder.valid j.feeder) j c.args.list c.if-list-gt-ROOM.false _ c.end_of.result c.in_ok-ok_or.field-0 _ (sym c.in_ok-all_usable.ensures) c.end_of.ensures c.in_ok-ok_or.ensures.ok_part refl refl refl refl c.in_ok-replace.ensures (ap Some c.len.ensures.counts)
