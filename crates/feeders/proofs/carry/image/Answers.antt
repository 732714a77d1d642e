-- The three answers, and the laws, which every feeder keeps.
use Rattle.std.proofs.Common.{rules}
use Rattle.feeders.proofs.Images.{image_laws}
use Rattle.feeders.proofs.carry.image.Goals as goal

pub returns-then-not-is_within : goal.returns-then-not-is_within
returns-then-not-is_within g c =
    let f = c.args.feeder.now in
    record { answer = search rules; laws = image_laws (g.F.Feeder.motion f) (g.F.Feeder.valid f) }

pub returns-then-not-all_below : goal.returns-then-not-all_below
returns-then-not-all_below g c =
    let f = c.args.feeder.now in
    record { answer = search rules; laws = image_laws (g.F.Feeder.motion f) (g.F.Feeder.valid f) }

pub returns : goal.returns
returns g c =
    let f = c.args.feeder.now in
    record { answer = search rules; laws = image_laws (g.F.Feeder.motion f) (g.F.Feeder.valid f) }
