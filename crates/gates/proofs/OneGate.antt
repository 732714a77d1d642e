-- The gates of a sheet, one by one: each from the fields of its set and its turn.
use Rattle.std.proofs.Common.{◌≡◌, ℕ, suc, ◌+◌, ◌-◌, ◌^◌, ◌<◌, ltb, List, [], ◌∷◌, ◌++◌, Ok, Err, Result, sym, refl, ap, ◌∙◌, arith}
use Rattle.refusals.specs.declared.Fault.{Fault}
use Rattle.refusals.specs.declared.Refusal.TheVariants.{OutsideLimit}
use Rattle.numbers.specs.Field.{field_at, and_then, rest_of, whole_of, Takes}
use Rattle.numbers.specs.Grammar.{number, tested, ended, within}
use Rattle.numbers.specs.declared.fields.Fields.{Fields}
use Rattle.numbers.proofs.Field.{below_at, field_takes, takes_below, ended_then}
use Rattle.lists.specs.declared.bounded.Bounded.{Bounded}
use Rattle.lists.specs.Held.{list_of}
use Rattle.gates.specs.declared.gate.Gate.{Gate}
use Rattle.gates.specs.Gates.{Gates}
use Rattle.gates.specs.Fields.{OneGate, GivesGates}
use Rattle.gates.specs.Sheet.{gates_left, gate_fields}

-- what comes after a set: the turn, and the gates that are left
abbrev Turned : List ℕ → ℕ → ℕ → List Gate → ℕ → List ℕ → Result Gates Fault
Turned whole n left read s rest = number whole rest (λ t after. tested (ltb t n) OutsideLimit whole rest (gates_left whole n left (read ++ (record { set = s; turn = t } ∷ [])) after))

-- `sets` and `turns` are the code's ends of a set and of a turn
set_taken : (sets n : ℕ) (before after : Fields) (r : Result ℕ Fault) → sets ≡ 2 ^ n → Takes (below_at sets) before after r → (left : ℕ) (read : List Gate) → gates_left (whole_of before) n (suc left) read (rest_of before) ≡ and_then r (λ s. Turned (whole_of before) n left read s (rest_of after))
set_taken sets n before after r is h left read =
    field_takes (λ v. ltb v (2 ^ n)) OutsideLimit (whole_of before) before after r (Turned (whole_of before) n left read) refl (takes_below sets (2 ^ n) before after r is h)

turn_taken : (turns n : ℕ) (whole : List ℕ) (before after : Fields) (r : Result ℕ Fault) → turns ≡ n → whole_of before ≡ whole → Takes (below_at turns) before after r → (left : ℕ) (read : List Gate) (s : ℕ) → Turned whole n left read s (rest_of before) ≡ and_then r (λ t. gates_left whole n left (read ++ (record { set = s; turn = t } ∷ [])) (rest_of after))
turn_taken turns n whole before after r is same h left read s =
    field_takes (λ v. ltb v n) OutsideLimit whole before after r (λ t rest. gates_left whole n left (read ++ (record { set = s; turn = t } ∷ [])) rest) same (takes_below turns n before after r is h)

pub set_refused : (sets n : ℕ) (before after last : Fields) (e : Fault) → sets ≡ 2 ^ n → Takes (below_at sets) before after (Err e) → OneGate n before last (Err e)
set_refused sets n before after last e is h left read = set_taken sets n before after (Err e) is h left read

module _ (sets turns n : ℕ) (before middle after : Fields) (s : ℕ) (is : sets ≡ 2 ^ n) (is₁ : turns ≡ n) (h : Takes (below_at sets) before middle (Ok s)) where
  pub turn_refused : (last : Fields) (e : Fault) → Takes (below_at turns) middle after (Err e) → OneGate n before last (Err e)
  turn_refused last e h₁ left read =
      set_taken sets n before middle (Ok s) is h left read
      ∙ turn_taken turns n (whole_of before) middle after (Err e) is₁ h.1 h₁ left read s

  pub gate_accepted : (t : ℕ) → Takes (below_at turns) middle after (Ok t) → OneGate n before after (Ok (record { set = s; turn = t }))
  gate_accepted t h₁ = (
    λ left read.
        set_taken sets n before middle (Ok s) is h left read
        ∙ turn_taken turns n (whole_of before) middle after (Ok t) is₁ h.1 h₁ left read s,
    h₁.1 ∙ h.1,
  )

-- after i of k gates, the fields that are left have the others
abbrev pub Left : ℕ → ℕ → ℕ → Fields → Fields → List Gate → Type 0
Left n k i first fields gs =
    (gates_left (whole_of first) n k [] (rest_of first) ≡ gates_left (whole_of first) n (k - i) gs (rest_of fields)) × (whole_of fields ≡ whole_of first)

-- one gate more is to come
next : (n k i : ℕ) (first fields : Fields) (gs : List Gate) → i < k → Left n k i first fields gs → gates_left (whole_of first) n k [] (rest_of first) ≡ gates_left (whole_of fields) n (suc (k - (i + 1))) gs (rest_of fields)
next n k i first fields gs h is =
    let one_less : k - i ≡ suc (k - (i + 1)) = omega arith in
    is.0 ∙ ap (λ m. gates_left (whole_of first) n m gs (rest_of fields)) one_less
    ∙ ap (λ w. gates_left w n (suc (k - (i + 1))) gs (rest_of fields)) (sym is.1)

pub left_stops : (n k i : ℕ) (first fields last : Fields) (gs : List Gate) (e : Fault) → i < k → Left n k i first fields gs → OneGate n fields last (Err e) → gates_left (whole_of first) n k [] (rest_of first) ≡ Err e
left_stops n k i first fields last gs e h is stops = next n k i first fields gs h is ∙ stops (k - (i + 1)) gs

pub left_more : (n k i : ℕ) (first fields after : Fields) (gs : List Gate) (g : Gate) → i < k → Left n k i first fields gs → OneGate n fields after (Ok g) → Left n k (i + 1) first after (gs ++ (g ∷ []))
left_more n k i first fields after gs g h is goes = (
  next n k i first fields gs h is ∙ goes.0 (k - (i + 1)) gs
      ∙ ap (λ w. gates_left w n (k - (i + 1)) (gs ++ (g ∷ [])) (rest_of after)) is.1,
  goes.1 ∙ is.1,
)

-- ---- a whole row

-- the fields after the number of poses
abbrev Counted : List ℕ → ℕ → List ℕ → Result Gates Fault
Counted whole n rest = number whole rest (λ k after. tested (within 1 32 k) OutsideLimit whole rest (gates_left whole n k [] after))

pub poses_taken : (before after : Fields) (r : Result ℕ Fault) → Takes (field_at (within 1 32) OutsideLimit) before after r → gate_fields (whole_of before) (rest_of before) ≡ and_then r (λ n. Counted (whole_of before) n (rest_of after))
poses_taken before after r h = field_takes (within 1 32) OutsideLimit (whole_of before) before after r (Counted (whole_of before)) refl h

pub count_taken : (whole : List ℕ) (n : ℕ) (before after : Fields) (r : Result ℕ Fault) → whole_of before ≡ whole → Takes (field_at (within 1 32) OutsideLimit) before after r → Counted whole n (rest_of before) ≡ and_then r (λ k. gates_left whole n k [] (rest_of after))
count_taken whole n before after r same h = field_takes (within 1 32) OutsideLimit whole before after r (λ k rest. gates_left whole n k [] rest) same h

-- so far, a row's fields are the gates that come after its two numbers
pub counts_taken : (first middle last : Fields) (n k : ℕ) → Takes (field_at (within 1 32) OutsideLimit) first middle (Ok n) → Takes (field_at (within 1 32) OutsideLimit) middle last (Ok k) → (gate_fields (whole_of first) (rest_of first) ≡ gates_left (whole_of last) n k [] (rest_of last)) × (whole_of last ≡ whole_of first)
counts_taken first middle last n k h h₁ =
    let same : whole_of last ≡ whole_of first = h₁.1 ∙ h.1 in
    (poses_taken first middle (Ok n) h ∙ count_taken (whole_of first) n middle last (Ok k) h.1 h₁ ∙ ap (λ w. gates_left w n k [] (rest_of last)) (sym same), same)

-- and with nothing left after the gates, they are the row
pub row_taken : (first middle third last : Fields) (n k : ℕ) (gs : Bounded Gate 32) (r : Result (Unit {0}) Fault) → Takes (field_at (within 1 32) OutsideLimit) first middle (Ok n) → Takes (field_at (within 1 32) OutsideLimit) middle third (Ok k) → GivesGates n k third last (Ok gs) → r ≡ ended (whole_of last) (rest_of last) (tt {0}) → gate_fields (whole_of first) (rest_of first) ≡ and_then r (λ u. Ok (record { poses = n; gates = list_of gs }))
row_taken first middle third last n k gs r h h₁ g e =
    let row : Gates = record { poses = n; gates = list_of gs } in
    (counts_taken first middle third n k h h₁).0 ∙ g.0 ∙ ap (λ w. ended w (rest_of last) row) (sym g.2)
    ∙ ended_then (whole_of last) (rest_of last) row ∙ ap (λ x. and_then x (λ u. Ok row)) (sym e)
