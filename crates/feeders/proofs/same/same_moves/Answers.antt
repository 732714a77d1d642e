-- All actions were asked, or one that differs was found.
use Rattle.std.proofs.Common.{◌≡◌, ◌≢◌, ℕ, ◌<◌, rules, tests}
use Rattle.std.proofs.lemmas.Iterator.{cases_from_all, YieldsList-from_range}
use Rattle.feeders.proofs.Images.{follows_ok}
use Rattle.feeders.proofs.Ranges.{decides_range}
use Rattle.feeders.proofs.same.same_moves.Goals as goal

pub returns : goal.returns
returns g c =
    let m = g.F.Feeder.motion c.args.first.now in
    let n = g.G.Feeder.motion c.args.second.now in
    let p = c.args.pose in
    let agree : ℕ → Type 0 = λ a. a < m.actions → m.next p a ≡ n.next p a in
    let differ : ℕ → Type 0 = λ a. (a < m.actions) × (m.next p a ≢ n.next p a) in
    let first = follows_ok m p in
    let second = follows_ok n p in
    let found = cases_from_all _ _ c.all.result agree differ c.all.ensures.ran (YieldsList-from_range 0 m.actions m.actions (search rules) (search rules)) (λ x q k. search (rules, tests, first, second)) (λ x q k. search (rules, tests, first, second)) in
    let decided = decides_range agree differ m.actions c.all.result (λ a h d. d.1 (h d.0)) found in
    (λ t a h. decided.0 t a h h, λ f. decided.1 (λ a h _. f a h))
