-- The greatest set of numbers below n is 2 ^ n - 1.
use Rattle.std.proofs.Common.{◌≡◌, ◌-◌, ◌^◌, ◌<◌, leb, inl, inr, ap, ◌∙◌, sym, arith, lt_of_lt_of_le, pow_mono}
use Rattle.std.proofs.lemmas.Bool.{cases_lt, lt-ltb, le-leb}
use Rattle.feeders.proofs.Sets.{leb-every}
use Rattle.feeders.proofs.bits.is_within.Goals as goal

pub returns : goal.returns
returns c =
    let s = c.args.set in
    elim (cases_lt c.args.n 32) [
      | inl l ↦ ap (leb s) (c.every.ensures.few (omega arith)) ∙ leb-every s c.args.n
      | inr g ↦
          let fits : s < 2 ^ 32 = omega (arith, c.ranges.set.fits) in
          let all : s < 2 ^ c.args.n = lt_of_lt_of_le fits (pow_mono g) in
          let most : c.every.result ≡ 2 ^ 32 - 1 = c.every.ensures.many g in
          le-leb s c.every.result (omega (arith, most, fits)) ∙ sym (lt-ltb s (2 ^ c.args.n) all)
    ]
