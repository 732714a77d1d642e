-- Where the distance is 1 or more there is a label that leads one nearer.
use Rattle.std.proofs.Common.{◌≡◌, ◌<◌, suc, Some, None, sym, ◌∙◌, arith, rules, subst}
use Rattle.graphs.specs.Certificate.{Passes}
use Rattle.graphs.specs.Distance.{Distance}
use Rattle.graphs.proofs.Distances.{distance_unique, distance_not-none}
use Rattle.grounds.specs.Reach.{StepsTo}
use Rattle.grounds.proofs.Searches.{entry_away, label_first, some_label}
use Rattle.grounds.proofs.steps.Steps.first_label.Given as given
use Rattle.grounds.proofs.steps.Steps.first_label.Goals as goal
use Rattle.grounds.proofs.steps.Steps.first_label.Goals.{In_ok-away}

-- the entry is the distance
entry_is : (g : given.Over) (c : In_ok-away g) → let x = c.args.self.now in let t = g.G.Ground.graph x.ground.now in Passes t x.permitted x.table.now → (c.args.node < t.nodes) × Distance t x.permitted c.args.node c.in_ok-away.away
entry_is g c p =
    let x = c.args.self.now in
    entry_away (g.G.Ground.graph x.ground.now) x.permitted x.table.now c.args.node (g.G.Ground.sound x.ground.now) p (omega (arith, c.nodes.ensures)) (Some c.in_ok-away.away) (sym c.in_ok-away.was ∙ c.entry.ensures.is)

pub returns-in_err-away : goal.returns-in_err-away
returns-in_err-away g c p =
    let x = c.args.self.now in
    let t = g.G.Ground.graph x.ground.now in
    let away = entry_away t x.permitted x.table.now c.args.node (g.G.Ground.sound x.ground.now) p (omega (arith, c.nodes.ensures)) None (sym c.in_err-away.was ∙ c.entry.ensures.is) in
    let is : c.from_residual.result ≡ None = search rules in
    subst (StepsTo t x.permitted c.args.node) (sym is) (λ e _ q. distance_not-none t x.permitted c.args.node (suc e) q away.1)

pub returns-in_err-checked_sub : goal.returns-in_err-checked_sub
returns-in_err-checked_sub g c p =
    let x = c.args.self.now in
    let t = g.G.Ground.graph x.ground.now in
    let r = entry_is g (goal.at.returns-in_err-checked_sub g c).In_ok-away p in
    let is : c.from_residual-in_err-checked_sub.result ≡ None = search rules in
    subst (StepsTo t x.permitted c.args.node) (sym is) (λ e _ q. omega (arith, distance_unique t x.permitted c.args.node c.in_ok-away.away (suc e) r.1 q, c.in_err-checked_sub.ensures))

pub returns-in_err-label : goal.returns-in_err-label
returns-in_err-label g c p =
    let x = c.args.self.now in
    let t = g.G.Ground.graph x.ground.now in
    let r = entry_is g (goal.at.returns-in_err-label g c).In_ok-away p in
    let more : c.in_ok-away.away ≡ suc c.in_ok-checked_sub.field-0 = omega (arith, c.in_ok-checked_sub.ensures) in
    absurd (some_label t x.permitted x.table.now c.args.node (g.G.Ground.sound x.ground.now) p r.0 c.in_ok-checked_sub.field-0 (subst (Distance t x.permitted c.args.node) more r.1) c.in_err-label.ensures)

pub returns : goal.returns
returns g c p =
    let x = c.args.self.now in
    let t = g.G.Ground.graph x.ground.now in
    let r = entry_is g (goal.at.returns g c).In_ok-away p in
    let more : c.in_ok-away.away ≡ suc c.in_ok-checked_sub.field-0 = omega (arith, c.in_ok-checked_sub.ensures) in
    let q = subst (Distance t x.permitted c.args.node) more r.1 in
    let f = c.in_ok-label.ensures in
    (r.0, (c.in_ok-checked_sub.field-0, q, label_first t x.permitted x.table.now c.args.node (g.G.Ground.sound x.ground.now) p r.0 c.in_ok-checked_sub.field-0 q c.in_ok-label.label f.0 f.1), c.next.ensures)
