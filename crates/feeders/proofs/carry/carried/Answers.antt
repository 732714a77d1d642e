-- Each turn performs one action more of the list.
use Rattle.std.proofs.Common.{◌<◌, get_or, ap, ◌∙◌, rules}
use Rattle.std.proofs.lemmas.List.{take_all}
use Rattle.feeders.specs.Motion.{brings}
use Rattle.feeders.proofs.Sets.{all_below-get_or}
use Rattle.feeders.proofs.Images.{brings_more, follows_ok}
use Rattle.feeders.proofs.carry.carried.Goals as goal

pub unwrap-here-requires : goal.unwrap-here-requires
unwrap-here-requires g c =
    let m = g.F.Feeder.motion c.args.feeder.now in
    let i = c.loop-action.action-index in
    let below : get_or c.args.list.now i 0 < m.actions = (all_below-get_or m.actions c.args.list.now).0 c.requires.1 i c.loop-action-test.true in
    let ok = follows_ok m c.loop-action.here (get_or c.args.list.now i 0) c.loop-action.invariant.0 below in
    search rules

pub loop-action-preserved : goal.loop-action-preserved
loop-action-preserved g c =
    let m = g.F.Feeder.motion c.args.feeder.now in
    let list = c.args.list.now in
    let i = c.loop-action.action-index in
    let below : get_or list i 0 < m.actions = (all_below-get_or m.actions list).0 c.requires.1 i c.loop-action-test.true in
    let ok = follows_ok m c.loop-action.here (get_or list i 0) c.loop-action.invariant.0 below in
    let stays = (g.F.Feeder.valid c.args.feeder.now).stays c.loop-action.here (get_or list i 0) c.loop-action.invariant.0 below in
    let step = brings_more m c.args.pose list c.loop-action.action-index c.loop-action-test.true in
    search rules

pub returns : goal.returns
returns g c =
    let m = g.F.Feeder.motion c.args.feeder.now in
    record { is = c.loop-action.invariant.1 ∙ ap (brings m c.args.pose) (take_all c.loop-action.action-index c.args.list.now c.loop-action-test.false); stays = c.loop-action.invariant.0 }
