-- Each turn reads one digit more.
use Rattle.std.proofs.Common.{◌≡◌, ℕ, ◌+◌, ◌-◌, ◌*◌, ◌^◌, ◌<◌, ◌≤◌, length, get_or, drop, sym, ap, ◌∙◌, subst, inl, inr, arith, rules}
use Rattle.std.proofs.lemmas.Bool.{eqb-true}
use Rattle.scripts.specs.Reading.{read_on}
use Rattle.scripts.proofs.Numbers.{read_on_more, read_on-none, read_on_all, number_more, number_in-fits, number_in_past}
use Rattle.scripts.proofs.read.number_of.Goals as goal

pub returns-then-is_empty : goal.returns-then-is_empty
returns-then-is_empty c =
    let ds = c.args.digits.now in
    sym (number_in_past ds (elim c.then-is_empty.either [
      | inl e ↦ inl (eqb-true (length ds) 0 (sym c.is_empty.ensures ∙ e))
      | inr h ↦ inr h.1
    ]))

pub returns-then-not-is_ascii_digit : goal.returns-then-not-is_ascii_digit
returns-then-not-is_ascii_digit c =
    let ds = c.args.digits.now in
    let i = c.loop-byte.byte-index in
    sym (number_in-fits ds (omega arith) (omega arith) ∙ sym c.loop-byte.invariant.0 ∙ read_on-none c.loop-byte.number ds i c.loop-byte-test.true (sym c.if-not-is_ascii_digit.ensures.value))

pub loop-byte-preserved : goal.loop-byte-preserved
loop-byte-preserved c =
    let ds = c.args.digits.now in
    let i = c.loop-byte.byte-index in
    let n = c.loop-byte.number in
    let d = get_or ds i 0 in
    let digit : d ≤ 57 = omega (arith, c.if-not-is_ascii_digit.ensures.cases) in
    let sum : 10 * n + (d - 48) ≡ 10 * n + c.from.result = omega (arith, c.from.ensures) in (
      ap (λ (x : ℕ). read_on x (drop (i + 1) ds)) (sym sum) ∙ read_on_more n ds i c.loop-byte-test.true (sym c.if-not-is_ascii_digit.ensures.value) ∙ c.loop-byte.invariant.0,
      subst (λ (x : ℕ). x < 10 ^ (i + 1)) sum (number_more n d i c.loop-byte.invariant.1 digit),
    )

pub returns : goal.returns
returns c =
    let ds = c.args.digits.now in
    let some : 1 ≤ length ds = search rules in
    sym (number_in-fits ds some (omega arith) ∙ sym c.loop-byte.invariant.0 ∙ read_on_all c.loop-byte.number ds c.loop-byte.byte-index c.loop-byte-test.false)
