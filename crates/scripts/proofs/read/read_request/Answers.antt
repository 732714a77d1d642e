-- A letter alone, a letter with a blank and digits, and other lines; the law holds of every line.
use Rattle.std.proofs.Common.{get_or, ap, rules}
use Rattle.scripts.specs.Reading.{request_with}
use Rattle.scripts.proofs.Meanings.{one_meaning, request_of-with}
use Rattle.scripts.proofs.read.read_request.Goals as goal

pub returns-in-len1 : goal.returns-in-len1
returns-in-len1 c = record { is = search rules; law = one_meaning }

pub returns-in_err-number-in-32 : goal.returns-in_err-number-in-32
returns-in_err-number-in-32 c =
    let line = c.args.line.now in
    let read = request_of-with line (search rules) (search rules) in
    let number = ap (request_with (get_or line 0 0)) c.in_err-number-in-32.ensures in
    record { is = cc; law = one_meaning }

pub returns-in_ok-number-in-32 : goal.returns-in_ok-number-in-32
returns-in_ok-number-in-32 c =
    let line = c.args.line.now in
    let read = request_of-with line (search rules) (search rules) in
    let number = ap (request_with (get_or line 0 0)) c.in_ok-number-in-32.ensures in
    record { is = cc; law = one_meaning }

pub returns-in_default : goal.returns-in_default
returns-in_default c = record { is = search rules; law = one_meaning }

pub returns-in_default-2 : goal.returns-in_default-2
returns-in_default-2 c = record { is = search rules; law = one_meaning }
