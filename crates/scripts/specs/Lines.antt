-- The lines that the program prints, as bytes.
use Rattle.std.specs.Prelude.{ℕ, List, ◌∷◌, ◌++◌, Some, None, Ok, Err, codes, decimal, Option, Result}
use Rattle.refusals.specs.Numbers.{number_of}
use Rattle.refusals.specs.Printed.{two_digits}
use Rattle.refusals.specs.declared.Fault.{Fault}
use Rattle.refusals.specs.declared.Refusal.{Refusal}
use Rattle.refusals.specs.declared.Refusal.TheVariants.{OutsideLimit}
use Rattle.scripts.specs.Requests.{letter_of}
use Rattle.scripts.specs.declared.request.Request.{Request}

-- The line of a refused sheet: `!`, the refusal's number in two digits, the place in decimal, with a blank between, and LF.
-- The refusal "value outside its limit" at place 2 is `! 13 2`.
abbrev pub fault_line : Fault → List ℕ
fault_line f = codes "! " ++ (two_digits (number_of f.refusal) ++ (codes " " ++ (decimal f.place ++ codes "\n")))

-- The line of the planner's answer: `P`, 00 and the plan's length; or `P`, the refusal's number in two digits and `-`.
abbrev pub plan_line : Result ℕ Refusal → List ℕ
plan_line (Ok n) = codes "P 00 " ++ (decimal n ++ codes "\n")
plan_line (Err e) = codes "P " ++ (two_digits (number_of e) ++ codes " -\n")

-- The line of one action of a plan: its number in decimal.
abbrev pub action_line : ℕ → List ℕ
action_line a = decimal a ++ codes "\n"

-- the letter of an answer: that of the request, or `?` for a line of another form
abbrev pub shown_letter : Option Request → ℕ
shown_letter None = 63
shown_letter (Some r) = letter_of r

-- The number of an answer: the refusal's, or 0 where nothing was refused.
-- A line of another form is a value outside its limit, whatever refusal is given.
abbrev pub shown_number : Option Request → Option Refusal → ℕ
shown_number None refusal = number_of OutsideLimit
shown_number (Some r) None = 0
shown_number (Some r) (Some e) = number_of e

-- the length of the plan that is held, or `-` where none is
abbrev pub shown_length : Option ℕ → List ℕ
shown_length None = codes "-"
shown_length (Some n) = decimal n

-- The line of an answer: the letter, the number in two digits, the plan's length, with a blank between, and LF.
-- A plan of four actions is answered by `P 00 4`, a line of another form where none is held by `? 13 -`.
abbrev pub answer_line : Option Request → Option Refusal → Option ℕ → List ℕ
answer_line request refusal plan =
    shown_letter request ∷ (codes " " ++ (two_digits (shown_number request refusal) ++ (codes " " ++ (shown_length plan ++ codes "\n"))))
