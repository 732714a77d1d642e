-- Which gate an action has, and what follows a pose.
use Rattle.std.proofs.Common.{◌≡◌, ℕ, ◌<◌, ltb, length, get_or, Ok, ◌∙◌}
use Rattle.std.proofs.lemmas.Bool.{cond-true, lt-ltb}
use Rattle.feeders.specs.Motion.{follows}
use Rattle.gates.specs.Gates.{Gates, idle, turned, gate_motion}

-- a pose and an action that are there have an answer: the gate's turn
pub follows_there : (t : Gates) (p a : ℕ) → p < t.poses → a < length t.gates → follows (gate_motion t) p a ≡ Ok (turned t.poses (get_or t.gates a idle) p)
follows_there t p a hp ha =
    cond-true (ltb p t.poses) _ _ (lt-ltb p t.poses hp)
    ∙ cond-true (ltb a (length t.gates)) _ _ (lt-ltb a (length t.gates) ha)
