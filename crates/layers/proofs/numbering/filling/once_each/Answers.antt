-- Every number below the length was counted once, or one was found that is not.
use Rattle.std.proofs.Common.{◌≡◌, ◌≢◌, ℕ, length, rules, tests}
use Rattle.std.proofs.lemmas.Iterator.{cases_from_all, YieldsList-from_range}
use Rattle.feeders.proofs.Ranges.{decides_range}
use Rattle.layers.specs.Once.{times}
use Rattle.layers.proofs.numbering.filling.once_each.Goals as goal

pub returns : goal.returns
returns c =
    let list = c.args.list.now in
    let once : ℕ → Type 0 = λ q. times q list ≡ 1 in
    let otherwise : ℕ → Type 0 = λ q. times q list ≢ 1 in
    let found = cases_from_all _ _ c.all.result once otherwise c.all.ensures.ran (YieldsList-from_range 0 (length list) (length list) (search rules) (search rules)) (λ x q k. search (rules, tests)) (λ x q k. search (rules, tests)) in
    decides_range once otherwise (length list) c.all.result (λ q is not. not is) found
