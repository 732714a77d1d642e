-- What the loop keeps: the set is brought along, and the rows up to that of action `i` are written.
use Rattle.std.proofs.Common.{◌≡◌, ◌+◌, ◌*◌, ◌^◌, ◌<◌, ◌++◌, take, drop}
use Rattle.feeders.specs.Image.{image}
use Rattle.traces.specs.Trace.{rows_to}
use Rattle.traces.proofs.trace.write_rows.Given as goal

abbrev pub invariant-loop-i : goal.invariant-loop-i
invariant-loop-i g l =
    let m = g.F.Feeder.motion l.feeder in
    record {
      along : l.here ≡ image m l.set (take l.i l.list);
      below : l.here < 2 ^ m.poses;
      written : l.buffer ≡ rows_to m l.set l.list (l.i + 1) ++ drop (12 * (l.i + 1)) l.fn.buffer;
    }
