-- The mask 1 keeps the last digit; past the digits there is nothing.
use Rattle.std.proofs.Common.{◌^◌, ◌<◌, sym, arith, ◌∙◌, lt_of_lt_of_le, pow_mono}
use Rattle.std.proofs.lemmas.Bool.{le-ltb}
use Rattle.feeders.proofs.Sets.{has_past}
use Rattle.feeders.proofs.bits.has.Goals as goal

pub returns-else-member-lt32 : goal.returns-else-member-lt32
returns-else-member-lt32 c =
    let fits : c.args.set < 2 ^ 32 = omega (arith, c.ranges.set.fits) in
    le-ltb c.args.member 32 c.if-member-lt32.false
    ∙ sym (has_past c.args.set c.args.member (lt_of_lt_of_le fits (pow_mono c.if-member-lt32.false)))
