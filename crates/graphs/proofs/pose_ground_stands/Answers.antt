-- The laws of the pose ground.
use Rattle.graphs.proofs.PoseRules.{pose_laws}
use Rattle.graphs.proofs.pose_ground_stands.Goals as goal

pub returns : goal.returns
returns c = pose_laws
