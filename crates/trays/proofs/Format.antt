-- The format of a tray's sheet: what keeps the rule is accepted in its spelling, and nothing else is.
use Rattle.std.proofs.Common.{◌≡◌, ℕ, zero, suc, ◌+◌, ◌*◌, ◌<◌, ◌≤◌, Bool, true, false, eqb, ltb, leb, List, [], ◌∷◌, ◌++◌, length, Ok, sym, refl, ap, ◌∙◌, subst, inl, inr, arith}
use Rattle.std.proofs.lemmas.List.{append-nil, append_assoc}
use Rattle.std.proofs.lemmas.Bool.{cond-true, cond-false, lt-ltb, le-leb, ltb-true, leb-true, eqb-true, cases_Bool}
use Rattle.refusals.specs.declared.Refusal.TheVariants.{OutsideLimit}
use Rattle.numbers.specs.Number.{spell}
use Rattle.numbers.specs.Grammar.{within}
use Rattle.numbers.specs.Format.{OneSheet}
use Rattle.numbers.proofs.Field.{number_only, number-spell}
use Rattle.numbers.proofs.Grammar.{err_ok, tested_only, ended_only, kinded_only, within_true, within_only}
use Rattle.trays.specs.Tray.{Grid, Keeps, frees}
use Rattle.trays.specs.Sheet.{spell_cell, spell_cells, spell_tray, good_cell, cells_left, tray_fields, tray_sheet}

pub frees-append : (xs ys : List Bool) → frees (xs ++ ys) ≡ frees xs + frees ys
frees-append [] ys = omega arith
frees-append (true ∷ xs) ys = omega (arith, frees-append xs ys)
frees-append (false ∷ xs) ys = frees-append xs ys

-- a cell's spelling is good as long as the free cells are few
good_spelled : (read : List Bool) (x : Bool) (cs : List Bool) → frees (read ++ (x ∷ cs)) ≤ 32 → good_cell read (spell_cell x) ≡ true
good_spelled read true cs h = lt-ltb (frees read) 32 (omega (arith, frees-append read (true ∷ cs), h))
good_spelled read false cs h = refl

pub cell_spelled : (x : Bool) → eqb (spell_cell x) 0x2e ≡ x
cell_spelled true = refl
cell_spelled false = refl

cells_accepted : (whole : List ℕ) (rows columns : ℕ) (read cs : List Bool) → 1 ≤ frees (read ++ cs) → frees (read ++ cs) ≤ 32 → cells_left whole rows columns (length cs) read (spell_cells cs) ≡ Ok (record { rows = rows; columns = columns; cells = read ++ cs })
cells_accepted whole rows columns read [] h k =
    cond-true (leb 1 (frees read)) _ _ (le-leb 1 (frees read) (omega (arith, ap frees (append-nil read), h)))
    ∙ ap (λ cs. Ok (record { rows = rows; columns = columns; cells = cs })) (sym (append-nil read))
cells_accepted whole rows columns read (x ∷ cs) h k =
    cond-true (good_cell read (spell_cell x)) _ _ (good_spelled read x cs k)
    ∙ ap (λ y. cells_left whole rows columns (length cs) (read ++ (y ∷ [])) (spell_cells cs)) (cell_spelled x)
    ∙ cells_accepted whole rows columns (read ++ (x ∷ [])) cs (rw append_assoc h) (rw append_assoc k)
    ∙ ap (λ ys. Ok (record { rows = rows; columns = columns; cells = ys })) (append_assoc read (x ∷ []) cs)

-- a good byte is a cell's spelling
good_spells : (read : List Bool) (b : ℕ) → good_cell read b ≡ true → b ≡ spell_cell (eqb b 0x2e)
good_spells read b h =
    elim (cases_Bool (eqb b 0x2e)) [
      | inl e ↦ eqb-true b 0x2e e ∙ ap spell_cell (sym e)
      | inr e ↦ eqb-true b 0x23 (sym (cond-false (eqb b 0x2e) (ltb (frees read) 32) (eqb b 0x23) e) ∙ h) ∙ ap spell_cell (sym e)
    ]

-- and makes the free cells no more than 32
good_few : (read : List Bool) (b : ℕ) → good_cell read b ≡ true → frees read ≤ 32 → frees (read ++ (eqb b 0x2e ∷ [])) ≤ 32
good_few read b h k =
    elim (cases_Bool (eqb b 0x2e)) [
      | inl e ↦
          let few : frees read < 32 = ltb-true (frees read) 32 (sym (cond-true (eqb b 0x2e) (ltb (frees read) 32) (eqb b 0x23) e) ∙ h) in
          omega (arith, few, ap (λ y. frees (read ++ (y ∷ []))) e, frees-append read (true ∷ []))
      | inr e ↦ omega (arith, k, ap (λ y. frees (read ++ (y ∷ []))) e, frees-append read (false ∷ []))
    ]

-- cells that are accepted are spelled, as many as were to come, and keep the rule
record CellsOf (rows columns left : ℕ) (read : List Bool) (rest : List ℕ) (t : Grid) : Type 0 where
  more : List Bool
  spelled : rest ≡ spell_cells more
  whole : length more ≡ left
  made : t ≡ record { rows = rows; columns = columns; cells = read ++ more }
  some : 1 ≤ frees (read ++ more)
  few : frees (read ++ more) ≤ 32

cells_only : (whole : List ℕ) (rows columns left : ℕ) (read : List Bool) (rest : List ℕ) (t : Grid) → frees read ≤ 32 → cells_left whole rows columns left read rest ≡ Ok t → CellsOf rows columns left read rest t
cells_only whole rows columns zero read rest t k h =
    let p = tested_only (leb 1 (frees read)) OutsideLimit whole rest _ t h in
    let q = ended_only whole rest (record { rows = rows; columns = columns; cells = read }) t p.1 in
    record {
      more = [];
      spelled = q.0;
      whole = refl;
      made = sym q.1 ∙ ap (λ cs. record { rows = rows; columns = columns; cells = cs }) (sym (append-nil read));
      some = rw append-nil (leb-true 1 (frees read) p.0);
      few = rw append-nil k;
    }
cells_only whole rows columns (suc left) read [] t k h = absurd (err_ok _ t h)
cells_only whole rows columns (suc left) read (b ∷ rest) t k h =
    let p = tested_only (good_cell read b) OutsideLimit whole (b ∷ rest) _ t h in
    let q = cells_only whole rows columns left (read ++ (eqb b 0x2e ∷ [])) rest t (good_few read b p.0 k) p.1 in
    record {
      more = eqb b 0x2e ∷ q.more;
      spelled = ap (λ c. c ∷ rest) (good_spells read b p.0) ∙ ap (λ cs. spell_cell (eqb b 0x2e) ∷ cs) q.spelled;
      whole = ap suc q.whole;
      made = q.made ∙ ap (λ cs. record { rows = rows; columns = columns; cells = cs }) (append_assoc read (eqb b 0x2e ∷ []) q.more);
      some = rw append_assoc at q.some;
      few = rw append_assoc at q.few;
    }

fields_accepted : (whole : List ℕ) (t : Grid) → Keeps t → tray_fields whole (spell t.rows ++ (spell t.columns ++ spell_cells t.cells)) ≡ Ok t
fields_accepted whole t k =
    number-spell whole t.rows _ _ (omega (arith, k.few_rows))
    ∙ cond-true (within 1 16 t.rows) _ _ (within_true 1 16 t.rows k.some_row k.few_rows)
    ∙ number-spell whole t.columns _ _ (omega (arith, k.few_columns))
    ∙ cond-true (within 1 16 t.columns) _ _ (within_true 1 16 t.columns k.some_column k.few_columns)
    ∙ ap (λ n. cells_left whole t.rows t.columns n [] (spell_cells t.cells)) (sym k.whole)
    ∙ cells_accepted whole t.rows t.columns [] t.cells k.some_free k.few_free

fields_only : (whole rest : List ℕ) (t : Grid) → tray_fields whole rest ≡ Ok t → Keeps t × (rest ≡ spell t.rows ++ (spell t.columns ++ spell_cells t.cells))
fields_only whole rest t h =
    let p = number_only whole rest _ t h in
    let p₁ = tested_only (within 1 16 p.0) OutsideLimit whole rest _ t p.4 in
    let q = number_only whole p.1 _ t p₁.1 in
    let q₁ = tested_only (within 1 16 q.0) OutsideLimit whole p.1 _ t q.4 in
    let w = cells_only whole p.0 q.0 (p.0 * q.0) [] q.1 t (omega arith) q₁.1 in
    let made : Grid = record { rows = p.0; columns = q.0; cells = w.more } in
    let sides = within_only 1 16 p.0 p₁.0 in
    let sides₁ = within_only 1 16 q.0 q₁.0 in
    let kept : Keeps made = record {
      some_row = sides.0;
      few_rows = sides.1;
      some_column = sides₁.0;
      few_columns = sides₁.1;
      whole = w.whole;
      some_free = w.some;
      few_free = w.few;
    } in
    let spelled : rest ≡ spell p.0 ++ (spell q.0 ++ spell_cells w.more) =
    p.3 ∙ ap (λ bs. spell p.0 ++ bs) (q.3 ∙ ap (λ bs. spell q.0 ++ bs) w.spelled) in
    subst (λ (g : Grid). Keeps g × (rest ≡ spell g.rows ++ (spell g.columns ++ spell_cells g.cells))) (sym w.made) (kept, spelled)

-- The theorem.
pub one_sheet : OneSheet Keeps spell_tray tray_sheet
one_sheet = record {
  accepted = λ t k. fields_accepted (spell_tray t) t k;
  only = λ sheet t h.
      let p = kinded_only 2 sheet (tray_fields sheet) t h in
      let q = fields_only sheet p.0 t p.2 in
      (q.0, p.1 ∙ ap (λ bs. 2 ∷ bs) q.1);
}
