-- Why the grounds made from a feeder are sound.
use Rattle.std.specs.Prelude.{ℕ}
use Rattle.feeders.specs.Motion.{Motion, Valid}
use Rattle.graphs.specs.Graph.{Sound}
use Rattle.graphs.specs.Poses.{pose_graph}
use Rattle.graphs.specs.Pairs.{pair_graph}
use Rattle.graphs.proofs.Numbering as numbering

pub pose_sound : (m : Motion) (q : ℕ) → Valid m → Sound (pose_graph m q)
pose_sound = numbering.pose_sound

pub pair_sound : (m : Motion) → Valid m → Sound (pair_graph m)
pair_sound = numbering.pair_sound
