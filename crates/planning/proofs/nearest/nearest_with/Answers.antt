-- Each turn takes one pair more.
use Rattle.std.proofs.Common.{◌≡◌, ℕ, ◌+◌, ◌-◌, ◌<◌, sym, ◌∙◌, subst, arith}
use Rattle.std.specs.List.{filter_map, range_with_len, reduce}
use Rattle.feeders.specs.Sets.{has}
use Rattle.feeders.proofs.Sets.{has-below, T_of_true}
use Rattle.planning.specs.Nearest.{pair_of, first_of}
use Rattle.planning.proofs.Ends.{row_none, row_below}
use Rattle.planning.proofs.Firsts.{first_more}
use Rattle.planning.proofs.nearest.nearest_with.Goals as goal

pub returns-then-not-has : goal.returns-then-not-has
returns-then-not-has g c = sym (row_none c.args.distances.now.levels.table c.args.set c.args.p (sym c.if-not-has.ensures))

pub loop-q-preserved : goal.loop-q-preserved
loop-q-preserved g c =
    let p = c.args.p in
    let q = c.loop-q.q in
    c.nearer-best.ensures
    ∙ first_more (pair_of c.args.distances.now.levels.table c.args.set p) (q - (p + 1)) (q + 1 - (p + 1)) (p + 1) q (omega arith) (omega arith) c.loop-q.best c.pair_at.result c.loop-q.invariant c.pair_at.ensures

pub returns : goal.returns
returns g c =
    let table = c.args.distances.now.levels.table in
    let s = c.args.set in
    let p = c.args.p in
    let end = c.end_of-q-end.result in
    let below : p < end = has-below end s p c.end_of-q-end.ensures.above (T_of_true (has s p) (sym c.if-not-has.ensures)) in
    let all : c.loop-q.q ≡ end = omega (arith, c.loop-q.auto.q-end (omega (arith, below))) in
    subst (λ (k : ℕ). c.loop-q.best ≡ reduce first_of (filter_map (pair_of table s p) (range_with_len (p + 1) (k - (p + 1))))) all c.loop-q.invariant
    ∙ sym (row_below table s end c.end_of-q-end.ensures.above c.end_of-q-end.ensures.few p)
