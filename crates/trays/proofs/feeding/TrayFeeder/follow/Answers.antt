-- The direction of the action has its number.
use Rattle.std.proofs.Common.{ap, ◌∙◌}
use Rattle.feeders.specs.Motion.{follows}
use Rattle.trays.specs.Held.{grid_of}
use Rattle.trays.specs.Tray.{tray_motion}
use Rattle.trays.proofs.feeding.TrayFeeder.follow.Goals as goal

pub returns : goal.returns
returns c =
    c.tilt.ensures.moves ∙ ap (follows (tray_motion (grid_of c.args.self.now)) c.args.pose) c.in_ok-try_from.ensures
