-- The two arrays that an accepted list makes keep the rule.
use Rattle.std.proofs.Common.{◌≡◌, ◌≤◌, length, refl, arith}
use Rattle.layers.specs.Once.{Fills}
use Rattle.layers.proofs.Filling.{Made, keeps, take-number}
use Rattle.layers.proofs.numbering.RenumberTable.fill.Goals as goal

pub invariant_of-self : goal.invariant_of-self
invariant_of-self c =
    let list = c.args.list.now in
    let number = c.numbers_of.result in
    let place = c.places_of.result in
    let whole : length number ≡ 32 = omega arith in
    let made : Made list number place = record { fills = c.if-not-fills.ensures.0 tt; number_front = c.numbers_of.ensures.front; number_own = c.numbers_of.ensures.own; place_front = c.places_of.ensures.front; place_own = c.places_of.ensures.own } in
    record { keeps = keeps list number place whole made }

pub returns : goal.returns
returns c =
    let list = c.args.list.now in
    let number = c.numbers_of.result in
    let fills : Fills list = c.if-not-fills.ensures.0 tt in
    let fits : length list ≤ length number = omega (arith, fills.few) in
    record { fills = fills; counted = refl; front = take-number list number fits c.numbers_of.ensures.front; own = c.numbers_of.ensures.own }
