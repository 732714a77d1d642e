-- The letter is one byte, and the number two.
use Rattle.std.proofs.Common.{append_assoc, arith, rules}
use Rattle.refusals.proofs.Printed.{two_padded}
use Rattle.scripts.specs.Lines.{shown_number}
use Rattle.scripts.proofs.Shown.{encode-shown_letter, shown_number_le}
use Rattle.scripts.proofs.answer.answer_line.Goals as goal

pub returns-in-Some : goal.returns-in-Some
returns-in-Some c =
    let n = shown_number c.args.request c.args.refusal in
    let letter = encode-shown_letter c.args.request in
    let digits = two_padded n (omega (arith, shown_number_le c.args.request c.args.refusal)) in
    search (rules, append_assoc)

pub returns-in-None : goal.returns-in-None
returns-in-None c =
    let n = shown_number c.args.request c.args.refusal in
    let letter = encode-shown_letter c.args.request in
    let digits = two_padded n (omega (arith, shown_number_le c.args.request c.args.refusal)) in
    search (rules, append_assoc)
