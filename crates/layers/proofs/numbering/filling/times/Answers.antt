-- The sum fits: no number stands in the list more often than the list has entries.
use Rattle.std.proofs.Common.{◌≤◌, cond, eqb, length, arith, rules, tests}
use Rattle.std.proofs.lemmas.Iterator.{YieldsList-from_slice, YieldsList-from_map}
use Rattle.std.proofs.lemmas.Iterator.Consumers.{fits_by_from_yields_list}
use Rattle.std.proofs.lemmas.List.Sums.{count_by-le-length}
use Rattle.layers.specs.Once.{times}
use Rattle.layers.proofs.numbering.filling.times.Goals as goal

pub sum-requires-clause-fits : goal.sum-requires-clause-fits
sum-requires-clause-fits c =
    let list = c.args.list.now in
    let q = c.args.number in
    let few : times q list ≤ length list = count_by-le-length (λ x. eqb x q) list in
    fits_by_from_yields_list (λ x. cond (eqb x q) 1 0) list c.map.result _
    (YieldsList-from_map _ (λ x. cond (eqb x q) 1 0) (YieldsList-from_slice list cc) c.map.ensures.closure (λ x r b k. search (rules, tests)))
    (omega (arith, few))
