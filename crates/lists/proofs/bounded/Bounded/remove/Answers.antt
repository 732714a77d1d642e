-- The items behind the place moved up by one.
use Rattle.std.proofs.Common.{◌≡◌, ◌+◌, ◌<◌, length, length-take, take, Some, slice_get, arith, rules}
use Rattle.std.specs.List.{copy_within}
use Rattle.std.proofs.lemmas.Option.{slice_get_within}
use Rattle.lists.proofs.Front.{take-shifted}
use Rattle.lists.proofs.bounded.Bounded.remove.Goals as goal

pub returns : goal.returns
returns g c =
    let n = c.args.self.now.length in
    let xs = c.args.self.now.items in
    let i = c.args.place in
    let ys = c.copy_within.new.self in
    let there : slice_get (take n xs) i ≡ Some c.in_ok-item.item = search rules in
    let within : i < length (take n xs) = slice_get_within (take n xs) i _ there in
    let moved : ys ≡ copy_within xs (i + 1) n i = search rules in
    (within, there, take-shifted n xs i ys (omega arith) (omega (arith, length-take n xs)) moved)
