-- A node that is reached and no goal has a first label.
use Rattle.std.proofs.Common.{◌≡◌, ◌<◌, false, Ok, ap, ◌∙◌, subst}
use Rattle.feeders.proofs.Sets.{not-T_of_false}
use Rattle.grounds.specs.Reach.{Away}
use Rattle.grounds.proofs.Searches.{goal_is, step_there}
use Rattle.grounds.proofs.reach.search.Goals as goal

pub unwrap-label-requires : goal.unwrap-label-requires
unwrap-label-requires g c =
    let t = g.G.Ground.graph c.args.ground.now in
    let v = c.args.node in
    let d = c.measure-distances.result.levels in
    let u = g.G.Ground.graph d.ground.now in
    let away = subst (Away u d.permitted v) (ap Ok c.in-Some.is) c.in_ok-distance.ensures.away in
    let inside : v < t.nodes = rw c.measure-distances.ensures.at at away.0 in
    let not_goal : t.goal v ≡ false = goal_is t v c.in_ok-is_goal.field-0 inside c.in_ok-is_goal.ensures ∙ c.if-branch.false in
    step_there u d.permitted v c.in-Some.distance c.first_label.result away.0 (rw c.measure-distances.ensures.at (not-T_of_false (t.goal v) not_goal)) away.1 c.first_label.ensures
