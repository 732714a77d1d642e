-- A pair of the set is a node of the ground.
use Rattle.std.proofs.Common.{◌≡◌, ◌<◌, true, Ok, is_ok, ap, ◌∙◌, rules}
use Rattle.feeders.specs.Sets.{has}
use Rattle.feeders.proofs.Sets.{has-below, T_of_true}
use Rattle.graphs.specs.Pairs.{pair_node}
use Rattle.planning.proofs.Pairing.{node_is, told_is}
use Rattle.planning.proofs.nearest.pair_at.Given as given
use Rattle.planning.proofs.nearest.pair_at.Goals as goal
use Rattle.planning.proofs.nearest.pair_at.Goals.{After-pair_node}

below : (g : given.Over) (c : After-pair_node g) → c.args.q < (g.F.Feeder.motion c.args.distances.now.levels.ground.now.feeder.now).poses
below g c =
    let there : has c.args.set c.args.q ≡ true = search rules in
    has-below (g.F.Feeder.motion c.args.distances.now.levels.ground.now.feeder.now).poses c.args.set c.args.q c.requires.set_bound (T_of_true (has c.args.set c.args.q) there)

node_there : (g : given.Over) (c : After-pair_node g) → c.pair_node.result ≡ Ok (pair_node c.args.p c.args.q)
node_there g c =
    rw c.ground.ensures at c.pair_node.ensures ∙ node_is (g.F.Feeder.motion c.args.distances.now.levels.ground.now.feeder.now).poses c.args.p c.args.q c.requires.p_lt_q (below g c)

pub unwrap-node-requires : goal.unwrap-node-requires
unwrap-node-requires g c = ap is_ok (node_there g c)

pub unwrap-requires : goal.unwrap-requires
unwrap-requires g c =
    let e = (goal.at.unwrap-requires g c).After-pair_node in
    let node = node_there g e in
    let same : c.unwrap-node.result ≡ pair_node c.args.p c.args.q = cc in
    ap is_ok (rw same at c.distance.ensures.told ∙ told_is (g.F.Feeder.motion c.args.distances.now.levels.ground.now.feeder.now).poses c.args.p c.args.q c.requires.p_lt_q (below g e) c.args.distances.now.levels.table)
