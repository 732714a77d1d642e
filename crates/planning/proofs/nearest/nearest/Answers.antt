-- Each turn takes one row more.
use Rattle.std.proofs.Common.{◌≡◌, ℕ, ◌+◌, sym, ◌∙◌, subst, arith}
use Rattle.std.specs.List.{filter_map, range_with_len, reduce}
use Rattle.planning.specs.Nearest.{row_of, first_of}
use Rattle.planning.proofs.Ends.{nearest_below}
use Rattle.planning.proofs.Firsts.{first_more}
use Rattle.planning.proofs.nearest.nearest.Goals as goal

pub loop-p-preserved : goal.loop-p-preserved
loop-p-preserved g c =
    let p = c.loop-p.p in
    c.nearer-best.ensures
    ∙ first_more (row_of c.args.distances.now.levels.table c.args.set) p (p + 1) 0 p (omega arith) (omega arith) c.loop-p.best c.nearest_with.result c.loop-p.invariant c.nearest_with.ensures

pub returns : goal.returns
returns g c =
    let table = c.args.distances.now.levels.table in
    let s = c.args.set in
    let end = c.end_of-p-end.result in
    let all : c.loop-p.p ≡ end = omega arith in
    subst (λ (k : ℕ). c.loop-p.best ≡ reduce first_of (filter_map (row_of table s) (range_with_len 0 k))) all c.loop-p.invariant
    ∙ sym (nearest_below table s end c.end_of-p-end.ensures.above c.end_of-p-end.ensures.few)
