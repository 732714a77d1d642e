-- How each round keeps what is promised.
use Rattle.std.proofs.Common.{◌≡◌, ◌<◌, ◌≤◌, ◌^◌, Some, None, is_ok, sym, refl, ap, ◌∙◌, inl, inr}
use Rattle.std.proofs.lemmas.Bool.{ltb-true, ltb-false}
use Rattle.std.proofs.lemmas.Result.{err_from_is_err_and}
use Rattle.refusals.specs.declared.Refusal.TheVariants.{CannotOrient}
use Rattle.plans.specs.Held.{list_of}
use Rattle.graphs.specs.Pairs.{pair_node, pair_graph}
use Rattle.graphs.specs.PairRule.{Nearest}
use Rattle.graphs.proofs.PairRules.{pair_laws}
use Rattle.planning.specs.Round.{size}
use Rattle.planning.specs.Walk.{Extends}
use Rattle.planning.proofs.Endings.{exact_planned, exact_stuck, exact_empty, exact_no_pose}
use Rattle.planning.proofs.Pairing.{node_is, same_Ok}
use Rattle.planning.proofs.Rounds.{round-starts, round_met, round_apart, round_fits, round_ones, pair_below}
use Rattle.planning.proofs.Scans.{look}
use Rattle.planning.proofs.Turns.{Turn, turned}
use Rattle.planning.proofs.rule.plan_pairs.Given as given
use Rattle.planning.proofs.rule.plan_pairs.Goals as goal
use Rattle.planning.proofs.rule.plan_pairs.Goals.{In_ok-pair, After-unwrap-node, After-image}

pub returns-then-not-is_within : goal.returns-then-not-is_within
returns-then-not-is_within g c =
    let f = c.args.feeder.now in
    let m = g.F.Feeder.motion f in
    let past : 2 ^ m.poses ≤ c.args.set = rw c.poses.ensures at (ltb-false c.args.set (2 ^ c.poses.result) (sym c.if-not-is_within.ensures)) in
    record {
      planned = (inl (past, refl), refl);
      exact = exact_no_pose m c.args.permitted c.args.set (g.F.Feeder.valid f) past;
      laws = pair_laws m c.args.permitted (g.F.Feeder.valid f);
    }

pub returns-then-set-eq0 : goal.returns-then-set-eq0
returns-then-set-eq0 g c =
    let f = c.args.feeder.now in
    let m = g.F.Feeder.motion f in
    let inside : c.args.set < 2 ^ m.poses = rw c.poses.ensures at (ltb-true c.args.set (2 ^ c.poses.result) (sym c.if-not-is_within.ensures)) in
    record {
      planned = (inr (inside, refl, inr c.if-set-eq0.true), refl);
      exact = exact_empty m c.args.permitted c.args.set (g.F.Feeder.valid f) c.if-set-eq0.true;
      laws = pair_laws m c.args.permitted (g.F.Feeder.valid f);
    }

pub loop-here-init : goal.loop-here-init
loop-here-init g c =
    let f = c.args.feeder.now in
    let m = g.F.Feeder.motion f in
    let inside : c.args.set < 2 ^ m.poses = rw c.poses.ensures at (ltb-true c.args.set (2 ^ c.poses.result) (sym c.if-not-is_within.ensures)) in
    rw c.new-made.ensures (round-starts m c.args.permitted c.args.set (g.F.Feeder.valid f) inside c.if-set-eq0.false)

pub nearest-requires : goal.nearest-requires
nearest-requires g c = rw (c.measure-distances.ensures.at, c.new-ground.ensures) c.loop-here.invariant.inside

pub returns-in_err-pair : goal.returns-in_err-pair
returns-in_err-pair g c =
    let f = c.args.feeder.now in
    let d = c.measure-distances.result in
    let m = g.F.Feeder.motion f in
    let ok = g.F.Feeder.valid f in
    let s = c.args.set in
    let here = c.loop-here.here in
    let perm = c.args.permitted in
    let inside : s < 2 ^ m.poses = rw c.poses.ensures at (ltb-true s (2 ^ c.poses.result) (sym c.if-not-is_within.ensures)) in
    let same : g.F.Feeder.motion d.levels.ground.now.feeder.now ≡ m = rw (c.measure-distances.ensures.at, c.new-ground.ensures) in
    let none = c.in_err-pair.ensures.ok_part in
    let why : c.in_err-pair.field-0.0 ≡ CannotOrient = let v = rw none at c.in_err-pair.ensures.value in cc in
    let apart = look m (g.F.Feeder.motion d.levels.ground.now.feeder.now) perm d.levels.permitted here d.levels.table ok c.loop-here.invariant.inside same c.measure-distances.ensures.by d.passes None (sym c.nearest.ensures ∙ none) in
    let two : 2 ≤ size here = rw (round_ones m perm s here (list_of c.loop-here.made) ok c.loop-here.invariant) at c.loop-here-test.true in
    let stuck = round_apart m perm s here (list_of c.loop-here.made) ok c.loop-here.invariant two apart in
    let p = err_from_is_err_and c.from_residual.result c.from_residual.ensures.1 in
    rw (p.1, p.2, why) (record {
      planned = (inr (inside, refl, inl stuck), refl);
      exact = exact_stuck m perm s ok stuck;
      laws = pair_laws m perm ok;
    })

-- the pair that is found
near : (g : given.Over) (c : In_ok-pair g) → Nearest (g.F.Feeder.motion c.args.feeder.now) c.args.permitted c.loop-here.here c.in_ok-pair.pair.p c.in_ok-pair.pair.q c.in_ok-pair.pair.away
near g c =
    let f = c.args.feeder.now in
    let d = c.measure-distances.result in
    let m = g.F.Feeder.motion f in
    let same : g.F.Feeder.motion d.levels.ground.now.feeder.now ≡ m = rw (c.measure-distances.ensures.at, c.new-ground.ensures) in
    look m (g.F.Feeder.motion d.levels.ground.now.feeder.now) c.args.permitted d.levels.permitted c.loop-here.here d.levels.table (g.F.Feeder.valid f) c.loop-here.invariant.inside same c.measure-distances.ensures.by d.passes (Some c.in_ok-pair.pair) (sym c.nearest.ensures ∙ c.in_ok-pair.ensures.ok_part)

pub unwrap-node-requires : goal.unwrap-node-requires
unwrap-node-requires g c =
    let f = c.args.feeder.now in
    let m = g.F.Feeder.motion f in
    let pair = c.in_ok-pair.pair in
    let i = near g (goal.at.unwrap-node-requires g c).In_ok-pair in
    let below = pair_below m c.args.permitted c.args.set c.loop-here.here (list_of c.loop-here.made) (g.F.Feeder.valid f) c.loop-here.invariant pair.p pair.q pair.away i in
    ap is_ok (rw c.new-ground.ensures at c.pair_node.ensures ∙ node_is m.poses pair.p pair.q below.0 below.1)

-- its node
node_is_there : (g : given.Over) (c : After-unwrap-node g) (i : Nearest (g.F.Feeder.motion c.args.feeder.now) c.args.permitted c.loop-here.here c.in_ok-pair.pair.p c.in_ok-pair.pair.q c.in_ok-pair.pair.away) → c.unwrap-node.result ≡ pair_node c.in_ok-pair.pair.p c.in_ok-pair.pair.q
node_is_there g c i =
    let below = pair_below (g.F.Feeder.motion c.args.feeder.now) c.args.permitted c.args.set c.loop-here.here (list_of c.loop-here.made) (g.F.Feeder.valid c.args.feeder.now) c.loop-here.invariant c.in_ok-pair.pair.p c.in_ok-pair.pair.q c.in_ok-pair.pair.away i in
    same_Ok (sym c.unwrap-node.ensures ∙ rw c.new-ground.ensures at c.pair_node.ensures ∙ node_is (g.F.Feeder.motion c.args.feeder.now).poses c.in_ok-pair.pair.p c.in_ok-pair.pair.q below.0 below.1)

pub append_way-requires : goal.append_way-requires
append_way-requires g c =
    let f = c.args.feeder.now in
    let m = g.F.Feeder.motion f in
    let pair = c.in_ok-pair.pair in
    let t = goal.at.append_way-requires g c in
    let i = near g t.In_ok-pair in
    rw (c.measure-distances.ensures.at, c.new-ground.ensures, c.measure-distances.ensures.by, node_is_there g t.After-unwrap-node i)
    (round_fits m c.args.permitted c.args.set c.loop-here.here (list_of c.loop-here.made) (g.F.Feeder.valid f) c.loop-here.invariant pair.p pair.q pair.away i)

-- what the way of the pair does to the set
turn : (g : given.Over) (c : After-image g) (i : Nearest (g.F.Feeder.motion c.args.feeder.now) c.args.permitted c.loop-here.here c.in_ok-pair.pair.p c.in_ok-pair.pair.q c.in_ok-pair.pair.away) → c.unwrap-node.result ≡ pair_node c.in_ok-pair.pair.p c.in_ok-pair.pair.q → Turn (g.F.Feeder.motion c.args.feeder.now) c.args.permitted c.args.set c.loop-here.here (list_of c.append_way.new.plan) c.image.result
turn g c i node =
    let f = c.args.feeder.now in
    let m = g.F.Feeder.motion f in
    let pair = c.in_ok-pair.pair in
    let x : Extends (pair_graph m) c.args.permitted (pair_node pair.p pair.q) (list_of c.loop-here.made) (list_of c.append_way.new.plan) = rw (c.measure-distances.ensures.at, c.new-ground.ensures, c.measure-distances.ensures.by, node) at c.append_way.ensures in
    turned m c.args.permitted c.args.set c.loop-here.here (list_of c.loop-here.made) (list_of c.append_way.new.plan) c.as_slice.result.now c.len-before.result pair.p pair.q pair.away (g.F.Feeder.valid f) c.loop-here.invariant i x c.as_slice.ensures c.len-before.ensures.counts c.image.result c.image.ensures.answer

pub unwrap-here-requires : goal.unwrap-here-requires
unwrap-here-requires g c =
    let t = goal.at.unwrap-here-requires g c in
    let i = near g t.In_ok-pair in
    ap is_ok (turn g c i (node_is_there g t.After-unwrap-node i)).is

pub loop-here-smaller : goal.loop-here-smaller
loop-here-smaller g c =
    let t = goal.at.loop-here-smaller g c in
    let i = near g t.In_ok-pair in
    let r = turn g t.After-image i (node_is_there g t.After-unwrap-node i) in
    let next : c.unwrap-here.result ≡ r.next = same_Ok (sym c.unwrap-here.ensures ∙ r.is) in
    rw next r.falls

pub loop-here-preserved : goal.loop-here-preserved
loop-here-preserved g c =
    let t = goal.at.loop-here-preserved g c in
    let i = near g t.In_ok-pair in
    let r = turn g t.After-image i (node_is_there g t.After-unwrap-node i) in
    let next : c.unwrap-here.result ≡ r.next = same_Ok (sym c.unwrap-here.ensures ∙ r.is) in
    rw next r.more

pub returns : goal.returns
returns g c =
    let f = c.args.feeder.now in
    let m = g.F.Feeder.motion f in
    let ok = g.F.Feeder.valid f in
    let s = c.args.set in
    let here = c.loop-here.here in
    let inside : s < 2 ^ m.poses = rw c.poses.ensures at (ltb-true s (2 ^ c.poses.result) (sym c.if-not-is_within.ensures)) in
    let one : size here < 2 = rw (round_ones m c.args.permitted s here (list_of c.loop-here.made) ok c.loop-here.invariant) at c.loop-here-test.false in
    let rule = round_met m c.args.permitted s here (list_of c.loop-here.made) ok c.loop-here.invariant one in
    record {
      planned = (inside, rule);
      exact = exact_planned m c.args.permitted s ok tt (list_of c.loop-here.made) inside rule;
      laws = pair_laws m c.args.permitted ok;
    }
