-- Each turn of the loop reads one gate.
use Rattle.std.proofs.Common.{◌+◌, [], ◌∷◌, length, sym, ap, ◌∙◌, subst, length-append}
use Rattle.std.proofs.lemmas.Result.{err_from_is_err_and}
use Rattle.lists.specs.Held.{list_of}
use Rattle.lists.proofs.Appended.{appended}
use Rattle.gates.proofs.OneGate.{Left, left_stops, left_more}
use Rattle.gates.proofs.fields.read_gates.Goals as goal

pub returns-in_err-read_gate : goal.returns-in_err-read_gate
returns-in_err-read_gate c =
    let p = err_from_is_err_and c.from_residual.result c.from_residual.ensures.1 in
    rw (p.1, p.2) (left_stops c.args.poses c.args.count c.loop.counter c.args.fields.now c.loop.fields c.read_gate.new.fields (list_of c.loop.gates) _ c.loop-test.true c.loop.invariant.0 c.in_err-read_gate.ensures)

pub loop-preserved : goal.loop-preserved
loop-preserved c =
    let g = c.in_ok-read_gate.field-0 in
    let more = appended (g ∷ []) c.loop.gates c.push.new.self c.push.result c.unwrap.result c.unwrap.ensures c.push.ensures in
    let read = left_more c.args.poses c.args.count c.loop.counter c.args.fields.now c.loop.fields c.read_gate.new.fields (list_of c.loop.gates) g c.loop-test.true c.loop.invariant.0 c.in_ok-read_gate.ensures in (
      subst (λ gs. Left c.args.poses c.args.count (c.loop.counter + 1) c.args.fields.now c.read_gate.new.fields gs) (sym more) read,
      ap length more ∙ length-append (list_of c.loop.gates) (g ∷ []) ∙ ap (λ n. n + 1) c.loop.invariant.1,
    )
