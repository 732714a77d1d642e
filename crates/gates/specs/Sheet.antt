-- The sheet of a gate row: 3, the number of poses n, the number of gates k, then k times set and turn.
use Rattle.std.specs.Prelude.{ℕ, zero, suc, ◌^◌, List, [], ◌∷◌, ◌++◌, length, Result, nat_lt}
use Rattle.refusals.specs.declared.Fault.{Fault}
use Rattle.refusals.specs.declared.Refusal.TheVariants.{OutsideLimit}
use Rattle.numbers.specs.Number.{spell}
use Rattle.numbers.specs.Grammar.{kinded, number, tested, ended, within}
use Rattle.gates.specs.declared.gate.Gate.{Gate}
use Rattle.gates.specs.Gates.{Gates}

-- The format: how a gate row is spelled.
abbrev pub spell_gates : List Gate → List ℕ
spell_gates [] = []
spell_gates (g ∷ gs) = spell g.set ++ (spell g.turn ++ spell_gates gs)

abbrev pub spell_row : Gates → List ℕ
spell_row t = 3 ∷ (spell t.poses ++ (spell (length t.gates) ++ spell_gates t.gates))

-- What comes of any bytes: each field is tested as it is read.
-- the gates still to come, after those read
abbrev pub gates_left : List ℕ → ℕ → ℕ → List Gate → List ℕ → Result Gates Fault
gates_left whole n zero read rest = ended whole rest (record { poses = n; gates = read })
gates_left whole n (suc left) read rest =
    number whole rest (λ s r₁. tested (nat_lt s (2 ^ n)) OutsideLimit whole rest
    (number whole r₁ (λ t r₂. tested (nat_lt t n) OutsideLimit whole r₁
    (gates_left whole n left (read ++ (record { set = s; turn = t } ∷ [])) r₂))))

abbrev pub gate_fields : List ℕ → List ℕ → Result Gates Fault
gate_fields whole rest =
    number whole rest (λ n r₁. tested (within 1 32 n) OutsideLimit whole rest
    (number whole r₁ (λ k r₂. tested (within 1 32 k) OutsideLimit whole r₁
    (gates_left whole n k [] r₂))))

abbrev pub gate_sheet : List ℕ → Result Gates Fault
gate_sheet whole = kinded 3 whole (gate_fields whole)
