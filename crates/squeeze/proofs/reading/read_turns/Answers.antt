-- One turn more is read, or the fault of the one that is refused is that of them all.
use Rattle.std.proofs.Common.{◌≡◌, ◌+◌, ◌-◌, ◌++◌, [], ◌∷◌, Ok, Err, length, sym, ap, ◌∙◌, arith, length-append}
use Rattle.std.proofs.lemmas.Result.{err_from_is_err_and}
use Rattle.lists.specs.Held.{list_of}
use Rattle.lists.proofs.Appended.{appended}
use Rattle.numbers.specs.Field.{rest_of, whole_of}
use Rattle.numbers.proofs.Field.{below_at, takes_whole}
use Rattle.squeeze.specs.Sheet.{turns_left}
use Rattle.squeeze.proofs.Readings.{turn_takes}
use Rattle.squeeze.proofs.reading.read_turns.Goals as goal

pub returns-in_err-below : goal.returns-in_err-below
returns-in_err-below c =
    let l = c.loop in
    let p = err_from_is_err_and c.from_residual.result c.from_residual.ensures.1 in
    let e = c.in_err-below.field-0.0 in
    rw (p.1, p.2) (record {
      whole = takes_whole (below_at c.from.result) l.fields c.below.new.self (Err e) c.in_err-below.ensures.takes ∙ l.invariant.whole;
      goes_on = λ steps. l.invariant.goes_on steps ∙ turn_takes (whole_of c.args.fields.now) c.from.result c.args.ticks steps c.args.count l.counter (list_of l.turns) l.fields c.below.new.self (Err e) c.loop-test.true c.from.ensures l.invariant.whole c.in_err-below.ensures.takes;
    })

pub loop-preserved : goal.loop-preserved
loop-preserved c =
    let l = c.loop in
    let v = c.in_ok-below.field-0 in
    let more : list_of c.push.new.self ≡ list_of l.turns ++ (v ∷ []) = appended (v ∷ []) l.turns c.push.new.self c.push.result c.unwrap.result c.unwrap.ensures c.push.ensures in
    record {
      whole = takes_whole (below_at c.from.result) l.fields c.below.new.self (Ok v) c.in_ok-below.ensures.takes ∙ l.invariant.whole;
      goes_on = λ steps. l.invariant.goes_on steps ∙ turn_takes (whole_of c.args.fields.now) c.from.result c.args.ticks steps c.args.count l.counter (list_of l.turns) l.fields c.below.new.self (Ok v) c.loop-test.true c.from.ensures l.invariant.whole c.in_ok-below.ensures.takes
          ∙ ap (λ rs. turns_left (whole_of c.args.fields.now) c.args.ticks steps (c.args.count - (l.counter + 1)) rs (rest_of c.below.new.self)) (sym more);
      long = omega (arith, ap length more, length-append (list_of l.turns) (v ∷ []), l.invariant.long);
    }
