-- The move is the step of the rest and the turn together.
use Rattle.std.proofs.Common.{◌≡◌, Some, arith, rules}
use Rattle.std.specs.List.{slice_get}
use Rattle.squeeze.specs.Held.{squeeze_of}
use Rattle.squeeze.specs.Valid.{keeps}
use Rattle.squeeze.proofs.Moves.{moves, sum_low}
use Rattle.squeeze.proofs.motion.SqueezeTableFeeder.follow.Goals as goal

pub overflow_add-step : goal.overflow_add-step
overflow_add-step c =
    let t = squeeze_of c.args.self.now in
    let at : slice_get t.steps c.args.pose ≡ Some c.in_ok-step.step = search rules in
    let by : slice_get t.turns c.args.action ≡ Some c.in_ok-turn.turn = search rules in
    let low = sum_low t c.args.pose c.args.action _ _ at by (keeps c.args.self.now) in
    omega (arith, (keeps c.args.self.now).few_ticks)

pub returns : goal.returns
returns c =
    let t = squeeze_of c.args.self.now in
    let at : slice_get t.steps c.args.pose ≡ Some c.in_ok-step.step = search rules in
    let by : slice_get t.turns c.args.action ≡ Some c.in_ok-turn.turn = search rules in
    moves t c.args.pose c.args.action c.in_ok-step.step c.in_ok-turn.turn at by c.step_of.result c.step_of.ensures.is
