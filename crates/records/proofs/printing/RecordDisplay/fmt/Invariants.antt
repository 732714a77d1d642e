-- What the loop keeps: the words of the record with the actions so far.
use Rattle.std.proofs.Common.{take}
use Rattle.std.specs.Fmt.{HasWritten, IsPlainFormatter}
use Rattle.records.specs.Contents.{plan_with}
use Rattle.records.specs.Printing.{in_words}
use Rattle.records.proofs.printing.RecordDisplay.fmt.Given as goal

abbrev pub invariant-loop-action : goal.invariant-loop-action
invariant-loop-action g l =
    let now = plan_with l.self.poses l.self.actions l.self.end (take l.action-index l.self.list.now) in
    IsPlainFormatter l.fn.f → HasWritten g.W.Write.write_str_gives l.fn.f (in_words now) l.f
