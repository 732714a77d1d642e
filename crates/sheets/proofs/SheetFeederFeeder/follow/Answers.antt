-- The tray's own answer, at the feeder that holds it.
use Rattle.std.proofs.Common.{sym, ap, ◌∙◌}
use Rattle.feeders.specs.Motion.{follows}
use Rattle.sheets.specs.Described.{motion_of}
use Rattle.sheets.specs.Held.{described_by}
use Rattle.sheets.specs.declared.feeder.SheetFeeder.{SheetFeeder}
use Rattle.sheets.proofs.SheetFeederFeeder.follow.Goals as goal

pub returns-in-Tray : goal.returns-in-Tray
returns-in-Tray c =
    c.follow-in-Tray.ensures
    ∙ ap (λ (f : SheetFeeder). follows (motion_of (described_by f)) c.args.pose c.args.action) (sym c.in-Tray.is)
