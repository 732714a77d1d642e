-- One action more.
use Rattle.std.proofs.Common.{ℕ, List, ◌++◌, get_or, take, sym, ap, ◌∙◌, rules, codes}
use Rattle.std.proofs.Output.{has_written_append, has_written_of_eq}
use Rattle.std.proofs.lemmas.List.{flat_map_more, take_more}
use Rattle.std.specs.Fmt.{decimal}
use Rattle.std.specs.List.{flat_map}
use Rattle.records.specs.Contents.{plan_with}
use Rattle.records.specs.Printing.{fields_in_words}
use Rattle.records.proofs.printing.RecordDisplay.fmt.Goals as goal

pub loop-action-preserved : goal.loop-action-preserved
loop-action-preserved g c plain =
    let r = c.args.self.now in
    let i = c.loop-action.action-index in
    let words : ℕ → List ℕ = λ a. codes " " ++ decimal a in
    let front : List ℕ = fields_in_words (plan_with r.poses r.actions r.end r.list.now) in
    let more = flat_map_more words front (take i r.list.now) (get_or r.list.now i 0) ∙ ap (λ w. front ++ flat_map words w) (sym (take_more r.list.now i 0 c.loop-action-test.true)) in
    has_written_of_eq _ _ _ _ _ more (has_written_append _ _ _ _ _ _ (c.loop-action.invariant plain) (search rules))
