-- All poses were asked, or one with a move that differs was found.
use Rattle.std.proofs.Common.{◌≡◌, ℕ, ◌<◌, rules, tests}
use Rattle.std.proofs.lemmas.Iterator.{cases_from_all, YieldsList-from_range}
use Rattle.feeders.proofs.Ranges.{decides_range}
use Rattle.feeders.proofs.same.same_feeder.Goals as goal

pub returns : goal.returns
returns g c =
    let m = g.F.Feeder.motion c.args.first.now in
    let n = g.G.Feeder.motion c.args.second.now in
    let agree : ℕ → Type 0 = λ p. (a : ℕ) → a < m.actions → m.next p a ≡ n.next p a in
    let differ : ℕ → Type 0 = λ p. agree p → ⊥ in
    let found = cases_from_all _ _ c.all.result agree differ c.all.ensures.ran (YieldsList-from_range 0 m.poses m.poses (search rules) (search rules)) (λ x q k. search (rules, tests)) (λ x q k. search (rules, tests)) in
    let decided = decides_range agree differ m.poses c.all.result (λ p h d. d h) found in
    let poses : m.poses ≡ n.poses = search rules in
    let actions : m.actions ≡ n.actions = search rules in (
      λ t. record { poses = poses; actions = actions; moves = λ p a hp ha. decided.0 t p hp a ha },
      λ s. decided.1 (λ p hp a ha. s.moves p a hp ha),
    )
