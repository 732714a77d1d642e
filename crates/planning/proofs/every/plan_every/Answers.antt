-- All poses are the image of all poses under no actions.
use Rattle.std.proofs.Common.{◌≡◌, ◌-◌, ◌^◌, [], ap, sym, ◌∙◌, arith}
use Rattle.feeders.proofs.Images.{image-empty}
use Rattle.graphs.specs.PairRule.{every}
use Rattle.graphs.proofs.Sizes.{every-below}
use Rattle.planning.proofs.every.plan_every.Goals as goal

pub returns : goal.returns
returns g c =
    let f = c.args.feeder.now in
    let m = g.F.Feeder.motion f in
    let all : c.every.result ≡ every m = c.every.ensures.few (omega (arith, c.poses.ensures, (g.F.Feeder.valid f).few_poses)) ∙ ap (λ n. 2 ^ n - 1) c.poses.ensures in
    record {
      planned = rw all at c.plan_pairs.ensures.planned;
      exact = rw all at (c.plan_pairs.ensures.exact [] tt (all ∙ sym (image-empty m (every m) (every-below m))));
    }
