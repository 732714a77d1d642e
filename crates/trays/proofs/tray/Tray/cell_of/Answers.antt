-- A free cell takes one of the poses that are left, and where none is left it has the pose.
use Rattle.std.proofs.Common.{◌≡◌, ◌<◌, length, sym, ap, ◌∙◌, subst, arith}
use Rattle.trays.specs.Cell.{HasPose}
use Rattle.trays.specs.Cells.{pose_in}
use Rattle.trays.specs.Held.{grid_of}
use Rattle.trays.specs.Tray.{frees, cell_of, pose_at}
use Rattle.trays.specs.Valid.{held_keeps}
use Rattle.trays.proofs.Counting.{pose_none, passed_free, passed_wall, passed_all}
use Rattle.trays.proofs.Moving.{index_poses}
use Rattle.trays.proofs.Relation.{cell_pose}
use Rattle.trays.proofs.tray.Tray.cell_of.Goals as goal
use Rattle.trays.proofs.tray.Tray.cell_of.Goals.{then-free+else-left-eq0, else-free}

pub loop-index-init : goal.loop-index-init
loop-index-init c = omega (arith, pose_none (grid_of c.args.self.now).cells)

pub returns-then-left-eq0 : goal.returns-then-left-eq0
returns-then-left-eq0 c =
    let t = grid_of c.args.self.now in
    let here : pose_at t.cells c.loop-index.index ≡ c.args.pose = omega (arith, c.loop-index.invariant, c.if-left-eq0.true) in
    let at : c.loop-index.index ≡ cell_of t.cells c.args.pose = sym (cell_pose t.cells c.loop-index.index c.if-free.true) ∙ ap (cell_of t.cells) here in
    let has : c.args.pose < frees t.cells = omega (arith, here, pose_in t.cells c.loop-index.index c.if-free.true) in
    subst (λ x. HasPose t x c.args.pose) (sym c.cell_at.ensures) (index_poses t (held_keeps c.args.self.now) c.loop-index.index c.args.pose has at)

pub loop-index-preserved : goal.loop-index-preserved
loop-index-preserved c =
    let cells = (grid_of c.args.self.now).cells in
    elim c.if-free.branch [
      | then-free+else-left-eq0 w ↦ omega (arith, passed_free cells c.loop-index.index w.if-free.true, w.left-is, w.if-left-eq0.false, c.loop-index.invariant)
      | else-free w ↦ omega (arith, passed_wall cells c.loop-index.index w.if-free.false, w.left-is, c.loop-index.invariant)
    ]

pub returns : goal.returns
returns c =
    let t = c.args.self.now in
    let cells = (grid_of t).cells in
    let all : c.loop-index.index ≡ length cells = omega (arith, c.loop-index-test.false, c.loop-index.auto) in
    omega (arith, t.counted, passed_all cells, ap (pose_at cells) all, c.loop-index.invariant)
