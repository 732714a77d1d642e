-- The beginning, its place among those read, the rest and its place: the first that is refused has its fault.
use Rattle.std.proofs.Common.{Ok, Err, sym, ap, ◌∙◌}
use Rattle.std.proofs.lemmas.Bool.{cond-false}
use Rattle.std.proofs.lemmas.Result.{err_from_is_err_and}
use Rattle.numbers.specs.Field.{number_in, rest_of, whole_of}
use Rattle.numbers.proofs.Field.{below_at, takes_whole}
use Rattle.numbers.proofs.Grammar.{tested_true}
use Rattle.numbers.specs.Grammar.{fault_at}
use Rattle.refusals.specs.declared.Reader.TheVariants.{Sheet}
use Rattle.refusals.specs.declared.Refusal.TheVariants.{OutOfOrder}
use Rattle.squeeze.specs.Sheet.{follows, settles}
use Rattle.squeeze.proofs.Readings.{begin_takes, rest_takes}
use Rattle.squeeze.proofs.reading.read_step.Goals as goal

pub returns-in_err-begin : goal.returns-in_err-begin
returns-in_err-begin c =
    let p = err_from_is_err_and c.from_residual.result c.from_residual.ensures.1 in
    let r = Err c.in_err-begin.field-0.0 in
    rw (p.1, p.2) (record {
      whole = takes_whole (below_at c.from.result) c.args.fields.now c.below.new.self r c.in_err-begin.ensures.takes;
      goes_on = begin_takes c.from.result c.args.ticks c.args.left c.args.steps.now c.from.ensures c.args.fields.now c.below.new.self r c.in_err-begin.ensures.takes;
    })

pub returns-then-not-is_above : goal.returns-then-not-is_above
returns-then-not-is_above c = record {
  whole = c.in_ok-begin.ensures.takes.1;
  goes_on = λ k. begin_takes c.from.result c.args.ticks c.args.left c.args.steps.now c.from.ensures c.args.fields.now c.below.new.self (Ok c.in_ok-begin.begin) c.in_ok-begin.ensures.takes k
      ∙ cond-false (follows c.args.steps.now c.in_ok-begin.begin) _ _ (sym c.if-not-is_above.ensures)
      ∙ ap Err (sym c.fault.ensures);
}

pub returns-in_err-rest : goal.returns-in_err-rest
returns-in_err-rest c =
    let p = err_from_is_err_and c.from_residual-in_err-rest.result c.from_residual-in_err-rest.ensures.1 in
    let r = Err c.in_err-rest.field-0.0 in
    rw (p.1, p.2) (record {
      whole = takes_whole number_in c.below.new.self c.number.new.self r c.in_err-rest.ensures ∙ c.in_ok-begin.ensures.takes.1;
      goes_on = rest_takes c.from.result c.args.ticks c.args.left c.args.steps.now c.from.ensures c.args.fields.now c.below.new.self c.in_ok-begin.begin c.in_ok-begin.ensures.takes c.if-not-is_above.ensures c.number.new.self r c.in_err-rest.ensures;
    })

pub returns-then-not-rests_right : goal.returns-then-not-rests_right
returns-then-not-rests_right c =
    let same = c.in_ok-begin.ensures.takes.1 in
    record {
      whole = c.in_ok-rest.ensures.1 ∙ same;
      goes_on = λ k. rest_takes c.from.result c.args.ticks c.args.left c.args.steps.now c.from.ensures c.args.fields.now c.below.new.self c.in_ok-begin.begin c.in_ok-begin.ensures.takes c.if-not-is_above.ensures c.number.new.self (Ok c.in_ok-rest.rest) c.in_ok-rest.ensures k
          ∙ cond-false (settles c.args.ticks c.args.left c.args.steps.now c.in_ok-begin.begin c.in_ok-rest.rest) _ _ (sym c.if-not-rests_right.ensures)
          ∙ ap (λ w. Err (fault_at OutOfOrder Sheet w (rest_of c.below.new.self))) (sym same)
          ∙ ap Err (sym c.fault-then-not-rests_right.ensures);
    }

pub returns : goal.returns
returns c = record {
  whole = c.in_ok-rest.ensures.1 ∙ c.in_ok-begin.ensures.takes.1;
  goes_on = λ k. rest_takes c.from.result c.args.ticks c.args.left c.args.steps.now c.from.ensures c.args.fields.now c.below.new.self c.in_ok-begin.begin c.in_ok-begin.ensures.takes c.if-not-is_above.ensures c.number.new.self (Ok c.in_ok-rest.rest) c.in_ok-rest.ensures k
      ∙ tested_true (settles c.args.ticks c.args.left c.args.steps.now c.in_ok-begin.begin c.in_ok-rest.rest) OutOfOrder (whole_of c.args.fields.now) (rest_of c.below.new.self) _ (sym c.if-not-rests_right.ensures);
}
