-- Each turn looks at one node more; the level is below the number of nodes.
use Rattle.std.proofs.Common.{◌≡◌, suc, ◌<◌, length, add-one, refl, ◌∙◌, arith, rules}
use Rattle.std.proofs.lemmas.List.{length-set}
use Rattle.graphs.specs.Certificate.{none}
use Rattle.grounds.proofs.Sweeps.{level_below, sweep_starts, sweep_gives, sweep_skips, sweep_ends}
use Rattle.grounds.proofs.levels.Levels.sweep.Given as given
use Rattle.grounds.proofs.levels.Levels.sweep.Goals as goal
use Rattle.grounds.proofs.levels.Levels.sweep.Goals.{In-loop-node, then-is_next, else-is_next}

-- the level is below the number of nodes
small : (g : given.Over) (c : In-loop-node g) → c.args.level < none
small g c =
    let x = c.args.self.now in
    let h = g.G.Ground.sound x.ground.now in
    omega (arith, level_below (g.G.Ground.graph x.ground.now) x.permitted c.args.level x.table h c.requires, h.few_nodes)

pub is_next-requires-clause-some : goal.is_next-requires-clause-some
is_next-requires-clause-some g c = small g c

pub overflow_add-self : goal.overflow_add-self
overflow_add-self g c = omega (arith, small g (goal.at.overflow_add-self g c).In-loop-node)

pub overflow_cast-self : goal.overflow_cast-self
overflow_cast-self g c = omega (arith, small g (goal.at.overflow_cast-self g c).In-loop-node)

pub loop-node-preserved : goal.loop-node-preserved
loop-node-preserved g c =
    let x = c.loop-node.self in
    let t = g.G.Ground.graph x.ground.now in
    let h = g.G.Ground.sound x.ground.now in
    let k = c.loop-node.node in
    let d = c.args.level in
    let few : d < none = small g (goal.at.loop-node-preserved g c).In-loop-node in
    let inside : k < t.nodes = rw c.loop-node.invariant.at (omega (arith, c.nodes-node-end.ensures)) in
    let in_table : k < length x.table = omega (arith, c.loop-node.invariant.long, h.few_nodes) in
    elim c.if-is_next.branch [
      | then-is_next w ↦ rw (w.self-is, w.any-is, add-one d) (record {
        at = c.loop-node.invariant.at;
        by = c.loop-node.invariant.by;
        long = length-set x.table k (suc d) ∙ c.loop-node.invariant.long;
        swept = sweep_gives t x.permitted d k c.loop-node.any x.table h few inside in_table w.if-is_next.ensures c.loop-node.invariant.swept;
      })
      | else-is_next w ↦ rw (w.self-is, w.any-is) (record {
        at = c.loop-node.invariant.at;
        by = c.loop-node.invariant.by;
        long = c.loop-node.invariant.long;
        swept = sweep_skips t x.permitted d k c.loop-node.any x.table h w.if-is_next.ensures c.loop-node.invariant.swept;
      })
    ]

pub returns-clause-swept : goal.returns-clause-swept
returns-clause-swept g c =
    let x = c.loop-node.self in
    let t = g.G.Ground.graph x.ground.now in
    let all : c.loop-node.node ≡ t.nodes = rw c.loop-node.invariant.at (omega (arith, c.nodes-node-end.ensures)) in
    sweep_ends t x.permitted c.args.level c.loop-node.any x.table (g.G.Ground.sound x.ground.now) (rw all at c.loop-node.invariant.swept)

pub loop-node-init : goal.loop-node-init
loop-node-init g c =
    let x = c.args.self.now in
    record { at = refl; by = refl; long = search rules; swept = sweep_starts (g.G.Ground.graph x.ground.now) x.permitted c.args.level x.table c.requires }
