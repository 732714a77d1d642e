-- What the loop keeps: the digits that are left, read after the number, give the answer; and the number is small.
use Rattle.std.proofs.Common.{◌≡◌, ◌^◌, ◌<◌, drop}
use Rattle.scripts.specs.Reading.{read_on}
use Rattle.scripts.proofs.read.number_of.Given as goal

abbrev pub invariant-loop-byte : goal.invariant-loop-byte
invariant-loop-byte l =
    (read_on l.number (drop l.byte-index l.digits) ≡ read_on 0 l.digits) × (l.number < 10 ^ l.byte-index)
