-- Each turn carries one pose more.
use Rattle.std.proofs.Common.{ℕ, ◌^◌, ◌<◌, sym, ap, ◌∙◌, ap₂, arith}
use lib.Bits.{bit_or}
use Rattle.std.proofs.lemmas.Nat.{one_shl}
use Rattle.feeders.proofs.Images.{gathered-has, gathered_lacks}
use Rattle.feeders.proofs.carry.gather.Goals as goal
use Rattle.feeders.proofs.carry.gather.Goals.{then-has_pose, else-has_pose}

pub loop-pose-preserved : goal.loop-pose-preserved
loop-pose-preserved g c =
    let f = c.args.feeder.now in
    let m = g.F.Feeder.motion f in
    let s = c.args.set in
    let list = c.args.list.now in
    let p = c.loop-pose.pose in
    elim c.if-has_pose.branch [
      | then-has_pose w ↦
          let q = w.carried.result in
          let small : q < 32 = omega (arith, w.carried.ensures.stays, (g.F.Feeder.valid f).few_poses) in
          w.reached-is ∙ ap₂ bit_or c.loop-pose.invariant (one_shl q 32 small ∙ ap (λ (x : ℕ). 2 ^ x) w.carried.ensures.is)
          ∙ sym (gathered-has m s list p (sym w.if-has_pose.ensures))
      | else-has_pose w ↦ w.reached-is ∙ c.loop-pose.invariant ∙ sym (gathered_lacks m s list p (sym w.if-has_pose.ensures))
    ]
