-- The labels are looked through from the lowest.
use Rattle.std.proofs.Common.{ℕ, rules}
use Rattle.std.proofs.lemmas.Iterator.{first_from_Range}
use borrow.Author.Tests.{tests}
use Rattle.grounds.specs.Level.{LeadsTo}
use Rattle.grounds.proofs.Sweeps.{label_found}
use Rattle.grounds.proofs.steps.Steps.label_to.Goals as goal

pub returns : goal.returns
returns g c =
    let t = g.G.Ground.graph c.args.self.now.ground.now in
    let s = c.args.self.now.permitted in
    let table = c.args.self.now.table.now in
    let Yes : ℕ → Type 0 = LeadsTo t s table c.args.node c.args.away in
    label_found t s table c.args.node c.args.away c.labels.result c.find.result c.labels.ensures
    (first_from_Range _ _ _ c.find.result Yes (λ b. Yes b → ⊥) c.find.ensures.ran (λ x q k. search (rules, tests)) (λ x q k. search (rules, tests)))
