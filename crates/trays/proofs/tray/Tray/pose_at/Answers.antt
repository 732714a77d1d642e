-- The free cells in front are added up, each as 1.
use Rattle.std.proofs.Common.{◌≡◌, ◌*◌, cond, length, rules, take, sym, ap, ◌∙◌, arith}
use Rattle.std.proofs.lemmas.Iterator.{YieldsList-from_map, YieldsList-from_slice}
use Rattle.std.proofs.lemmas.Iterator.Consumers.{fits_by_from_yields_list, sum_by_from_yields_List}
use Rattle.std.proofs.lemmas.List.{length-take-le, take-take}
use Rattle.std.proofs.lemmas.List.Sums.{count_by-le-length}
use Rattle.std.specs.List.{count_by}
use Rattle.trays.specs.Held.{grid_of}
use Rattle.trays.specs.Valid.{held_index, held_size}
use Rattle.trays.specs.Tray.{pose_at}
use Rattle.trays.proofs.Counting.{pose_count}
use Rattle.trays.proofs.tray.Tray.pose_at.Goals as goal

pub sum-requires-clause-fits : goal.sum-requires-clause-fits
sum-requires-clause-fits c =
    let t = c.args.self.now in
    let before = take c.index_of.result t.cells in
    let inside = held_index t c.args.cell.row c.args.cell.column c.requires.row_in c.requires.column_in in
    let few : length before ≡ c.index_of.result = length-take-le c.index_of.result t.cells (omega (arith, inside, held_size t)) in
    fits_by_from_yields_list (λ x. cond x 1 0) before c.map.result _
    (YieldsList-from_map _ (λ x. cond x 1 0) (YieldsList-from_slice before (cc)) c.map.ensures.closure (λ x r q k. search rules))
    (omega (arith, few, inside, held_size t, count_by-le-length (λ x. x) before))

pub returns : goal.returns
returns c =
    let t = c.args.self.now in
    let i = c.index_of.result in
    let counted : c.sum.result ≡ count_by (λ x. x) (take i t.cells) =
    sum_by_from_yields_List (λ x. cond x 1 0) (take i t.cells) c.map.result c.sum.result c.sum.ensures.ran
    (YieldsList-from_map _ (λ x. cond x 1 0) (YieldsList-from_slice (take i t.cells) (cc)) c.map.ensures.closure (λ x r q k. search rules)) in
    let inside = held_index t c.args.cell.row c.args.cell.column c.requires.row_in c.requires.column_in in
    counted ∙ ap (count_by (λ x. x)) (sym (take-take i (t.rows * t.columns) t.cells (omega arith))) ∙ sym (pose_count (grid_of t).cells i) ∙ ap (pose_at (grid_of t).cells) c.index_of.ensures
