-- The slide from the pose's cell is a tilt, and the motion goes by it, as no other does.
use Rattle.std.proofs.Common.{rules}
use Rattle.trays.specs.Directions.{tilt_of}
use Rattle.trays.specs.Held.{grid_of}
use Rattle.trays.specs.Cell.{HasPose}
use Rattle.trays.specs.Tray.{Tilts}
use Rattle.trays.specs.Valid.{held_keeps}
use Rattle.trays.proofs.Moving.{pose_free, slide_tilts, tilt_follows}
use Rattle.trays.proofs.Relation.{tilts_once}
use Rattle.trays.proofs.tray.Tray.tilt.Goals as goal

pub returns-in_err-start-clause-only : goal.returns-in_err-start-clause-only
returns-in_err-start-clause-only c = tilts_once (grid_of c.args.self.now) (tilt_of c.args.direction)

pub slide-requires : goal.slide-requires
slide-requires c =
    let h : HasPose (grid_of c.args.self.now) c.in_ok-start.start c.args.pose = search rules in
    pose_free _ _ _ h

pub returns : goal.returns
returns c =
    let t = c.args.self.now in
    let h : HasPose (grid_of t) c.in_ok-start.start c.args.pose = search rules in
    let tilts : Tilts (grid_of t) (tilt_of c.args.direction) c.args.pose c.pose_at.result = rw c.pose_at.ensures (slide_tilts _ _ _ _ _ h c.slide.ensures) in
    record {
      slides = tilts;
      moves = tilt_follows (grid_of t) (held_keeps t) c.args.direction c.args.pose c.pose_at.result h.pose tilts;
      only = tilts_once (grid_of t) (tilt_of c.args.direction);
    }
