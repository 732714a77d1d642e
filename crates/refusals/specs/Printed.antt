-- How a refusal and a fault are printed.
use Rattle.std.specs.Prelude.{ℕ, ◌+◌, ◌/◌, ◌%◌, List, [], ◌∷◌, ◌++◌, codes, decimal}
use Rattle.refusals.specs.Numbers.{number_of}
use Rattle.refusals.specs.declared.Fault.{Fault}

-- a number below 100 in two decimal digits; 48 is the digit 0
abbrev pub two_digits : ℕ → List ℕ
two_digits n = (48 + n / 10) ∷ ((48 + n % 10) ∷ [])

-- a fault: the refusal's number in two digits, a blank, and the place in decimal
abbrev pub fault_text : Fault → List ℕ
fault_text f = two_digits (number_of f.refusal) ++ (codes " " ++ decimal f.place)
