-- What the number reader answers about a whole and its end, rest.
use Rattle.std.specs.Prelude.{◌≡◌, ℕ, List, Ok, Err, Result}
use Rattle.refusals.specs.declared.Fault.{Fault}
use Rattle.numbers.specs.declared.Number.{Number}
use Rattle.numbers.specs.Grammar.{number_fault}
use Rattle.numbers.specs.Field.{read_of}
use Rattle.numbers.specs.Number.{number_at}

-- the number at the front of rest with the bytes after it, or the fault of what stands there
abbrev pub Answers : List ℕ → List ℕ → Result Number Fault → Type 0
Answers whole rest (Ok n) = number_at rest ≡ Ok (read_of n)
Answers whole rest (Err e) = (number_at rest ≡ Err e.refusal) × (e ≡ number_fault whole rest e.refusal)
