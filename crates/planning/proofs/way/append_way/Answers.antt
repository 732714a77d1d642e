-- Each turn appends one label of the way.
use Rattle.plans.specs.Held.{list_of}
use Rattle.planning.proofs.Ways.{walk_more, walk_ends, pushed_is}
use Rattle.planning.proofs.way.append_way.Goals as goal

pub loop-label-preserved : goal.loop-label-preserved
loop-label-preserved g c =
    let x = c.args.distances.now.levels in
    walk_more (g.G.Ground.graph x.ground.now) x.permitted c.args.node c.loop-label.here (list_of c.args.plan.now) (list_of c.loop-label.plan) (g.G.Ground.sound x.ground.now) c.loop-label.invariant
    c.in-Some.label c.in-Some.next (list_of c.push.new.self) c.in-Some.ensures
    (pushed_is (list_of c.loop-label.plan) c.in-Some.label c.loop-label.plan c.push.new.self c.push.result c.unwrap.result c.unwrap.ensures c.push.ensures)

pub returns : goal.returns
returns g c =
    let x = c.args.distances.now.levels in
    walk_ends (g.G.Ground.graph x.ground.now) x.permitted c.args.node c.loop-label.here (list_of c.args.plan.now) (list_of c.loop-label.plan) (g.G.Ground.sound x.ground.now) c.loop-label.invariant c.in_default.ensures
