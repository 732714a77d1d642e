-- The answers of the calls on the pose ground, each in the words of ways.
use Rattle.std.proofs.Common.{◌≡◌, ◌+◌, ◌<◌, length, Some, None, Ok, refl, subst, inl, inr, arith}
use Rattle.std.proofs.lemmas.Result.{err_from_is_err_and}
use Rattle.refusals.specs.declared.Refusal.TheVariants.{CannotEndThere}
use Rattle.plans.specs.Held.{list_of}
use Rattle.graphs.specs.Poses.{pose_graph}
use Rattle.graphs.specs.Certificate.{Passes}
use Rattle.graphs.proofs.Numbering.{pose_sound}
use Rattle.graphs.proofs.PoseRules.{pose_laws}
use Rattle.grounds.proofs.Searches.{passing}
use Rattle.grounds.specs.Reach.{Away}
use Rattle.planning.specs.Aimed.AimRefused.{no_pose, never, too_long}
use Rattle.planning.proofs.Aims.{way_there}
use Rattle.planning.proofs.aim.append_way_to.Goals as goal

pub returns-in_err-ground : goal.returns-in_err-ground
returns-in_err-ground g c =
    let f = c.args.feeder.now in
    let refused = c.in_err-ground.ensures in
    let p = err_from_is_err_and c.from_residual.result c.from_residual.ensures.1 in
    rw (p.1, p.2, refused.1) (record {
      aimed = (no_pose (inl refused.0), refl);
      laws = pose_laws (g.F.Feeder.motion f) c.args.permitted (g.F.Feeder.valid f);
    })

pub returns-in_err-distance : goal.returns-in_err-distance
returns-in_err-distance g c =
    let f = c.args.feeder.now in
    let refused = rw (c.measure-distances.ensures.at, c.in_ok-ground.ensures.1) at c.in_err-distance.ensures.away in
    let p = err_from_is_err_and c.from_residual-in_err-distance.result c.from_residual-in_err-distance.ensures.1 in
    rw (p.1, p.2, refused.1) (record {
      aimed = (no_pose (inr refused.0), refl);
      laws = pose_laws (g.F.Feeder.motion f) c.args.permitted (g.F.Feeder.valid f);
    })

pub returns-in_err-away : goal.returns-in_err-away
returns-in_err-away g c =
    let f = c.args.feeder.now in
    let m = g.F.Feeder.motion f in
    let there = c.in_ok-ground.ensures in
    let d = c.measure-distances.result.levels in
    let none = c.in_err-away.ensures.ok_part in
    let told = subst (λ o. Away (pose_graph (g.F.Feeder.motion d.ground.now.feeder.now) d.ground.now.goal) d.permitted c.args.from (Ok o)) none c.in_ok-distance.ensures.away in
    let away : Away (pose_graph m c.args.goal) c.args.permitted c.args.from (Ok None) = rw (c.measure-distances.ensures.at, there.1, there.2, c.measure-distances.ensures.by) at told in
    let why : c.in_err-away.field-0.0 ≡ CannotEndThere = let v = rw none at c.in_err-away.ensures.value in cc in
    let p = err_from_is_err_and c.from_residual-in_err-away.result c.from_residual-in_err-away.ensures.1 in
    rw (p.1, p.2, why) (record {
      aimed = (never there.0 away.0 away.1, refl);
      laws = pose_laws m c.args.permitted (g.F.Feeder.valid f);
    })

pub returns-then-len-away-gt-ROOM : goal.returns-then-len-away-gt-ROOM
returns-then-len-away-gt-ROOM g c =
    let f = c.args.feeder.now in
    let m = g.F.Feeder.motion f in
    let d = c.measure-distances.result in
    let there = c.in_ok-ground.ensures in
    let some = c.in_ok-away.ensures.ok_part in
    let k = pose_graph m c.args.goal in
    let told = subst (λ o. Away (pose_graph (g.F.Feeder.motion d.levels.ground.now.feeder.now) d.levels.ground.now.goal) d.levels.permitted c.args.from (Ok o)) some c.in_ok-distance.ensures.away in
    let away : Away k c.args.permitted c.args.from (Ok (Some c.in_ok-away.away)) = rw (c.measure-distances.ensures.at, there.1, there.2, c.measure-distances.ensures.by) at told in
    let passes : Passes k c.args.permitted d.levels.table = rw (c.measure-distances.ensures.at, there.1, there.2, c.measure-distances.ensures.by) at (passing (pose_graph (g.F.Feeder.motion d.levels.ground.now.feeder.now) d.levels.ground.now.goal) d.levels.permitted d.levels.table d.passes) in
    let way = way_there k c.args.permitted d.levels.table c.args.from c.in_ok-away.away (pose_sound m c.args.goal (g.F.Feeder.valid f)) passes away.0 away.1 in
    let long : 16384 < length (list_of c.args.plan.now) + length way.0 = omega (arith, way.2, c.len.ensures.counts) in
    record {
      aimed = (too_long {w = way.0} there.0 away.0 way.1 long, refl);
      laws = pose_laws m c.args.permitted (g.F.Feeder.valid f);
    }

pub returns-clause-laws : goal.returns-clause-laws
returns-clause-laws g c = pose_laws (g.F.Feeder.motion c.args.feeder.now) c.args.permitted (g.F.Feeder.valid c.args.feeder.now)
