-- Each side goes on with what follows it, or comes to its fault.
use Rattle.std.proofs.Common.{◌≡◌, ℕ, ◌*◌, List, [], Ok, Err, Result, refl, sym, ap, ◌∙◌}
use Rattle.std.proofs.lemmas.Result.{err_from_is_err_and}
use Rattle.refusals.specs.declared.Fault.{Fault}
use Rattle.refusals.specs.declared.Refusal.TheVariants.{OutsideLimit}
use Rattle.refusals.proofs.Outcomes.{gives_like}
use Rattle.numbers.specs.declared.fields.Fields.{Fields}
use Rattle.numbers.specs.Field.{Takes, and_then, rest_of, whole_of}
use Rattle.numbers.specs.Grammar.{number, tested, within}
use Rattle.numbers.proofs.Field.{field_takes, limited_at}
use Rattle.trays.specs.Held.{grid_of}
use Rattle.trays.specs.Sheet.{cells_left, tray_fields}
use Rattle.trays.specs.Tray.{Grid}
use Rattle.trays.proofs.tray.Tray.read.Goals as goal

-- what comes of the fields behind the rows
abbrev columns_left : List ℕ → ℕ → List ℕ → Result Grid Fault
columns_left whole rows rest =
    number whole rest (λ columns after. tested (within 1 16 columns) OutsideLimit whole rest (cells_left whole rows columns (rows * columns) [] after))

rows_take : (before after : Fields) (r : Result ℕ Fault) → Takes (limited_at 1 16) before after r → tray_fields (whole_of before) (rest_of before) ≡ and_then r (λ rows. columns_left (whole_of before) rows (rest_of after))
rows_take before after r h = field_takes (within 1 16) OutsideLimit (whole_of before) before after r _ refl h

columns_take : (whole : List ℕ) (rows : ℕ) (before after : Fields) (r : Result ℕ Fault) → whole_of before ≡ whole → Takes (limited_at 1 16) before after r → columns_left whole rows (rest_of before) ≡ and_then r (λ columns. cells_left whole rows columns (rows * columns) [] (rest_of after))
columns_take whole rows before after r is h = field_takes (within 1 16) OutsideLimit whole before after r _ is h

pub returns-in_err-rows : goal.returns-in_err-rows
returns-in_err-rows c =
    let p = err_from_is_err_and c.from_residual.result c.from_residual.ensures.1 in
    rw (p.1, p.2) (rows_take c.args.fields c.limited.new.self (Err c.in_err-rows.field-0.0) c.in_err-rows.ensures.takes)

pub returns-in_err-columns : goal.returns-in_err-columns
returns-in_err-columns c =
    let p = err_from_is_err_and c.from_residual-in_err-columns.result c.from_residual-in_err-columns.ensures.1 in
    rw (p.1, p.2)
    (rows_take c.args.fields c.limited.new.self (Ok c.in_ok-rows.rows) c.in_ok-rows.ensures.takes
    ∙ columns_take (whole_of c.args.fields) c.in_ok-rows.rows c.limited.new.self c.limited-2.new.self (Err c.in_err-columns.field-0.0) c.in_ok-rows.ensures.takes.1 c.in_err-columns.ensures.takes)

pub returns : goal.returns
returns c =
    let rows = c.in_ok-rows.rows in
    let columns = c.in_ok-columns.columns in
    let after = c.limited-2.new.self in
    gives_like grid_of c.read_cells.result
    (rows_take c.args.fields c.limited.new.self (Ok rows) c.in_ok-rows.ensures.takes
    ∙ columns_take (whole_of c.args.fields) rows c.limited.new.self after (Ok columns) c.in_ok-rows.ensures.takes.1 c.in_ok-columns.ensures.takes
    ∙ ap (λ whole. cells_left whole rows columns (rows * columns) [] (rest_of after)) (sym (c.in_ok-columns.ensures.takes.1 ∙ c.in_ok-rows.ensures.takes.1)))
    c.read_cells.ensures
