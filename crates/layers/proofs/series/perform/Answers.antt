-- Each turn performs one entry, or passes over it.
use Rattle.std.proofs.Common.{◌≡◌, ◌<◌, ◌∙◌, arith, rules}
use Rattle.feeders.specs.Motion.{brings}
use Rattle.feeders.proofs.Images.{follows_ok}
use Rattle.layers.specs.Series.{present}
use Rattle.layers.proofs.Performing.{rest-performs, rest-passes_over, rest_ends}
use Rattle.layers.proofs.series.perform.Goals as goal
use Rattle.layers.proofs.series.perform.Goals.{then-action-actions, else-action-actions}

pub unwrap-here-requires : goal.unwrap-here-requires
unwrap-here-requires g c =
    let m = g.F.Feeder.motion c.args.feeder.now in
    let ok = follows_ok m c.loop-entry.here c.from-action.result c.loop-entry.invariant.0 (omega arith) in
    search rules

pub loop-entry-preserved : goal.loop-entry-preserved
loop-entry-preserved g c =
    let m = g.F.Feeder.motion c.args.feeder.now in
    let xs = c.args.series.now in
    let i = c.loop-entry.entry-index in
    let here = c.loop-entry.here in
    let a = c.from-action.result in
    let q = c.if-action-actions.here in
    let z = brings m c.args.pose (present m.actions xs) in
    elim c.if-action-actions.branch [
      | then-action-actions w ↦
          let has : a < m.actions = omega (arith, w.if-action-actions.true) in
          let ok = follows_ok m here a c.loop-entry.invariant.0 has in
          let moved : w.unwrap-here.result ≡ m.next here a = search rules in
          let stays = (g.F.Feeder.valid c.args.feeder.now).stays here a c.loop-entry.invariant.0 has in
          (omega (arith, w.here-is, moved, stays), rest-performs m here a q z xs i c.loop-entry-test.true c.from-action.ensures has (w.here-is ∙ moved) c.loop-entry.invariant.1)
      | else-action-actions w ↦
          (omega (arith, w.here-is, c.loop-entry.invariant.0), rest-passes_over m here a q z xs i c.loop-entry-test.true c.from-action.ensures (omega (arith, w.if-action-actions.false)) w.here-is c.loop-entry.invariant.1)
    ]

pub returns : goal.returns
returns g c =
    let m = g.F.Feeder.motion c.args.feeder.now in
    let xs = c.args.series.now in
    rest_ends m c.loop-entry.here (brings m c.args.pose (present m.actions xs)) xs c.loop-entry.entry-index c.loop-entry-test.false c.loop-entry.invariant.1
