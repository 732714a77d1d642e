-- The part passes the free cells ahead.
use Rattle.std.proofs.Common.{refl, rules}
use borrow.Author.Tests.{tests}
use Rattle.trays.specs.Cell.{IsFreeAhead}
use Rattle.trays.specs.Directions.{tilt_of}
use Rattle.trays.specs.Held.{grid_of}
use Rattle.trays.specs.Valid.{held_keeps}
use Rattle.trays.proofs.Moving.{passed_slides}
use Rattle.trays.proofs.Passing.{last_passed}
use Rattle.trays.proofs.tray.Tray.slide.Goals as goal

pub returns : goal.returns
returns c =
    let t = grid_of c.args.self.now in
    let a = tilt_of c.args.direction in
    rw c.unwrap_or.ensures
    (passed_slides t (held_keeps c.args.self.now) a c.args.start c.last.result c.requires
    (last_passed (IsFreeAhead t a c.args.start) _ c.map_while.result c.last.result refl c.map_while.ensures.runs c.last.ensures.runs (λ x o q k. search (rules, tests))))
