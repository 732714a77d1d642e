-- The reader's way through the cells, one byte at a time.
use Rattle.std.proofs.Common.{◌≡◌, ℕ, suc, ◌+◌, ◌-◌, ◌<◌, ◌≤◌, Bool, true, false, eqb, List, [], ◌∷◌, ◌++◌, length, take, set, Ok, Result, refl, sym, ap, ◌∙◌, subst, arith}
use Rattle.std.proofs.lemmas.List.{take_more_set}
use Rattle.std.proofs.lemmas.Bool.{ltb-true}
use Rattle.std.specs.Int.{from_bool}
use Rattle.refusals.specs.declared.Fault.{Fault}
use Rattle.refusals.specs.declared.Refusal.TheVariants.{OutsideLimit}
use Rattle.numbers.specs.declared.fields.Fields.{Fields}
use Rattle.numbers.specs.Field.{and_then, rest_of, whole_of}
use Rattle.numbers.specs.Number.{Read}
use Rattle.numbers.proofs.Field.{test_then}
use Rattle.numbers.proofs.Grammar.{err_ok, tested_only}
use Rattle.trays.specs.Tray.{Grid, frees}
use Rattle.trays.specs.Reads.{cell_at, good_after}
use Rattle.trays.specs.Sheet.{good_cell, cells_left, spell_cell}
use Rattle.trays.proofs.Format.{frees-append, cell_spelled}

-- what comes of the cells after the next one
abbrev pub cells_after : List ℕ → ℕ → ℕ → ℕ → List Bool → Read → Result Grid Fault
cells_after whole rows columns left read r = cells_left whole rows columns left (read ++ (eqb r.value 0x2e ∷ [])) r.rest

cell_then : (whole : List ℕ) (rows columns left : ℕ) (read : List Bool) (rest : List ℕ) → cells_left whole rows columns (suc left) read rest ≡ and_then (cell_at (frees read) whole rest) (cells_after whole rows columns left read)
cell_then whole rows columns left read [] = refl
cell_then whole rows columns left read (b ∷ rest) =
    test_then (good_cell read b) OutsideLimit whole (b ∷ rest) (record { value = b; rest = rest }) (cells_after whole rows columns left read)

-- the next of n cells, where i are read and `free` of them are free
pub cell_takes : (whole : List ℕ) (rows columns n i free : ℕ) (read : List Bool) (before : Fields) (r : Result Read Fault) → i < n → free ≡ frees read → whole_of before ≡ whole → cell_at free (whole_of before) (rest_of before) ≡ r
    → cells_left whole rows columns (n - i) read (rest_of before) ≡ and_then r (cells_after whole rows columns (n - (i + 1)) read)
cell_takes whole rows columns n i free read before r h f w e =
    let one : n - i ≡ suc (n - (i + 1)) = omega arith in
    ap (λ k. cells_left whole rows columns k read (rest_of before)) one
    ∙ cell_then whole rows columns (n - (i + 1)) read (rest_of before)
    ∙ ap (λ k. and_then (cell_at k whole (rest_of before)) (cells_after whole rows columns (n - (i + 1)) read)) (sym f)
    ∙ ap (λ v. and_then (cell_at free v (rest_of before)) (cells_after whole rows columns (n - (i + 1)) read)) (sym w)
    ∙ ap (λ q. and_then q (cells_after whole rows columns (n - (i + 1)) read)) e

-- the cell that was taken is stored behind those read
pub cell_stored : (cells : List Bool) (i : ℕ) (x : Bool) → i < length cells → take i cells ++ (eqb (spell_cell x) 0x2e ∷ []) ≡ take (i + 1) (set cells i x)
cell_stored cells i x h = ap (λ y. take i cells ++ (y ∷ [])) (cell_spelled x) ∙ sym (take_more_set cells i x h)

-- and counted if it is free
pub cell_counted : (cells : List Bool) (i free : ℕ) (x : Bool) → i < length cells → free ≡ frees (take i cells) → free + from_bool x ≡ frees (take (i + 1) (set cells i x))
cell_counted cells i free true h f = omega (arith, f, ap frees (take_more_set cells i true h), frees-append (take i cells) (true ∷ []))
cell_counted cells i free false h f = omega (arith, f, ap frees (take_more_set cells i false h), frees-append (take i cells) (false ∷ []))

-- so the free cells are no more than 32
good_few : (free : ℕ) (x : Bool) → good_after free (spell_cell x) ≡ true → free ≤ 32 → free + from_bool x ≤ 32
good_few free true e h = let few = ltb-true free 32 e in omega arith
good_few free false e h = omega arith

pub cell_few : (free : ℕ) (whole rest after : List ℕ) (x : Bool) → cell_at free whole rest ≡ Ok (record { value = spell_cell x; rest = after }) → free ≤ 32 → free + from_bool x ≤ 32
cell_few free whole [] after x e h = absurd (err_ok _ _ e)
cell_few free whole (b ∷ rest) after x e h =
    let p = tested_only (good_after free b) OutsideLimit whole (b ∷ rest) _ _ e in
    let read : ◌≡◌ {A = Result Read Fault} (Ok (record { value = b; rest = rest })) (Ok (record { value = spell_cell x; rest = after })) = p.1 in
    let same : ◌≡◌ {A = Read} (record { value = b; rest = rest }) (record { value = spell_cell x; rest = after }) = cc in
    good_few free x (subst (λ v. good_after free v ≡ true) (ap (λ r. r.value) same) p.0) h
