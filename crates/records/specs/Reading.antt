-- What comes of any bytes as a plan record: fields are tested as they are read, each before the next is looked at.
-- Places count bytes from 0, so bytes that end early end at the place that is their length.
use Rattle.std.specs.Prelude.{ℕ, ◌+◌, Bool, cond, List, [], ◌∷◌, ◌++◌, length, Ok, Err, Result, ◌==◌, nat_lt}
use Rattle.refusals.specs.declared.Fault.{Fault}
use Rattle.refusals.specs.declared.Reader.TheVariants.{Record}
use Rattle.refusals.specs.declared.Refusal.{Refusal}
use Rattle.refusals.specs.declared.Refusal.TheVariants.{EndsEarly, LeftOver, OutsideLimit, PlanTooLong, WrongKind}
use Rattle.numbers.specs.Field.{and_then}
use Rattle.numbers.specs.Grammar.{within}
use Rattle.numbers.specs.Number.{Read}
use Rattle.records.specs.Contents.{Contents, plan_with}

-- a fault of the record reader
abbrev pub fault_at : Refusal → ℕ → Fault
fault_at e place = record { refusal = e; place = place; reader = Record }

-- A field of one byte that passes a test, and the bytes after it.
abbrev pub field_at : (ℕ → Bool) → ℕ → List ℕ → Result Read Fault
field_at test place [] = Err (fault_at EndsEarly place)
field_at test place (b ∷ rest) = cond (test b) (Ok (record { value = b; rest = rest })) (Err (fault_at OutsideLimit place))

-- After the end byte nothing is left.
abbrev pub ended : ℕ → List ℕ → List ℕ → Result (List ℕ) Fault
ended place list [] = Ok list
ended place list (b ∷ rest) = Err (fault_at LeftOver place)

-- The actions of a feeder that has k, from place 4 on, after those read: 32 ends them, any other byte is an action, and no more than 16,384 are.
abbrev pub list_at : ℕ → List ℕ → List ℕ → Result (List ℕ) Fault
list_at k read [] = Err (fault_at EndsEarly (4 + length read))
list_at k read (b ∷ rest) =
    cond (b == 32) (ended (5 + length read) read rest)
    (cond (nat_lt b k)
    (cond (nat_lt (length read) 16384) (list_at k (read ++ (b ∷ [])) rest) (Err (fault_at PlanTooLong (4 + length read))))
    (Err (fault_at OutsideLimit (4 + length read))))

-- the fields after the kind: n, k, the end pose, the actions
abbrev pub fields_at : List ℕ → Result Contents Fault
fields_at rest =
    and_then (field_at (within 1 32) 1 rest) (λ n.
    and_then (field_at (within 1 32) 2 n.rest) (λ k.
    and_then (field_at (λ p. nat_lt p n.value) 3 k.rest) (λ e.
    and_then (list_at k.value [] e.rest) (λ list.
    Ok (plan_with n.value k.value e.value list)))))

abbrev pub record_at : List ℕ → Result Contents Fault
record_at [] = Err (fault_at EndsEarly 0)
record_at (kind ∷ rest) = cond (kind == 4) (fields_at rest) (Err (fault_at WrongKind 0))
