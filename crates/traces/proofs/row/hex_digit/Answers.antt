-- The shift divides by a power of 16.
use Rattle.std.proofs.Common.{rules}
use Rattle.traces.proofs.Rows.{bits_digits}
use Rattle.traces.specs.Rows.{hex_at}
use Rattle.traces.proofs.row.hex_digit.Goals as goal

pub returns : goal.returns
unfolding hex_at
returns c = rw (← bits_digits c.args.place) (search rules)
