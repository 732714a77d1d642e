-- One step more is read, or the fault of the one that is refused is that of them all.
use Rattle.std.proofs.Common.{◌≡◌, suc, ◌-◌, ◌++◌, [], ◌∷◌, Ok, Err, length, sym, ap, ◌∙◌, arith, length-append}
use Rattle.std.proofs.lemmas.Result.{err_from_is_err_and}
use Rattle.lists.specs.Held.{list_of}
use Rattle.lists.proofs.Appended.{appended}
use Rattle.numbers.specs.Field.{rest_of, whole_of}
use Rattle.squeeze.specs.Sheet.{steps_left}
use Rattle.squeeze.proofs.Readings.{step_takes}
use Rattle.squeeze.proofs.reading.read_steps.Goals as goal

pub returns-in_err-step : goal.returns-in_err-step
returns-in_err-step c =
    let l = c.loop-left in
    let p = err_from_is_err_and c.from_residual.result c.from_residual.ensures.1 in
    let one : l.left ≡ suc (l.left - 1) = omega arith in
    rw (p.1, p.2) (record {
      whole = c.read_step.ensures.whole ∙ l.invariant.whole;
      goes_on = λ k. l.invariant.goes_on k ∙ step_takes (whole_of c.args.fields.now) c.args.ticks (l.left - 1) l.left c.as_slice.result.now (list_of l.steps) l.fields c.read_step.new.fields (Err c.in_err-step.field-0.0) one c.as_slice.ensures l.invariant.whole c.in_err-step.ensures k;
    })

pub loop-left-preserved : goal.loop-left-preserved
loop-left-preserved c =
    let l = c.loop-left in
    let s = c.in_ok-step.step in
    let more : list_of c.push.new.self ≡ list_of l.steps ++ (s ∷ []) = appended (s ∷ []) l.steps c.push.new.self c.push.result c.unwrap.result c.unwrap.ensures c.push.ensures in
    let one : l.left ≡ suc (l.left - 1) = omega arith in
    record {
      whole = c.read_step.ensures.whole ∙ l.invariant.whole;
      goes_on = λ k. l.invariant.goes_on k ∙ step_takes (whole_of c.args.fields.now) c.args.ticks (l.left - 1) l.left c.as_slice.result.now (list_of l.steps) l.fields c.read_step.new.fields (Ok s) one c.as_slice.ensures l.invariant.whole c.in_ok-step.ensures k
          ∙ ap (λ ss. steps_left (whole_of c.args.fields.now) c.args.ticks k (l.left - 1) ss (rest_of c.read_step.new.fields)) (sym more);
      long = omega (arith, ap length more, length-append (list_of l.steps) (s ∷ []), l.invariant.long);
    }
