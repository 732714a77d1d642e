use Rattle.std.proofs.Common.{Bool, ◌∙◌, ap, sym, subst}
use Rattle.std.specs.Bool.{then_some}
use Rattle.std.specs.Int.{w32, trailing_zeros}
use Rattle.jobs.specs.Sets.{OnlyPose}
use Rattle.jobs.proofs.Checking.{only_pose_is}
use Rattle.jobs.proofs.sets.only_pose.Goals as goal

pub returns : goal.returns
returns c =
    let s = c.args.set in
    subst (OnlyPose s) (ap (λ (b : Bool). then_some b (trailing_zeros w32 s)) (sym c.is_power_of_two.ensures) ∙ sym c.then_some.ensures) (only_pose_is s c.ranges.set.fits)
