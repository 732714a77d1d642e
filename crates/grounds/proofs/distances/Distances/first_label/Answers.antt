-- The table passes.
use Rattle.grounds.proofs.Searches.{passing}
use Rattle.grounds.proofs.distances.Distances.first_label.Goals as goal

pub returns : goal.returns
returns g c =
    let x = c.args.self.now.levels in
    let e = c.steps.ensures in
    (rw (e.at, e.by, e.table) at c.first_label.ensures) (passing (g.G.Ground.graph x.ground.now) x.permitted x.table c.args.self.now.passes)
