-- What is left of 32 digits without the leading zeros.
use Rattle.std.proofs.Common.{◌≡◌, ℕ, ◌-◌, ◌*◌, ◌+◌, ◌^◌, ◌<◌, ◌≤◌, subst, arith}
use Rattle.std.proofs.lemmas.Nat.{leading_length}
use lib.Count.{count_leading_zeros}
use Rattle.planning.proofs.nearest.end_of.Goals as goal

pub returns-clause-above : goal.returns-clause-above
returns-clause-above c =
    let x = leading_length 32 c.args.set c.ranges.set.fits in
    let left : x.0 ≡ 32 - count_leading_zeros 32 c.args.set = omega (arith, x.1) in
    subst (λ (k : ℕ). c.args.set < 2 ^ k) left x.2

pub returns-clause-least : goal.returns-clause-least
returns-clause-least c =
    let x = leading_length 32 c.args.set c.ranges.set.fits in
    let left : x.0 ≡ 32 - count_leading_zeros 32 c.args.set = omega (arith, x.1) in
    subst (λ (k : ℕ). 2 ^ k ≤ 2 * c.args.set + 1) left x.3
