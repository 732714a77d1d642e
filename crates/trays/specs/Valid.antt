-- Every tray that is held keeps the rule of trays.
use Rattle.std.specs.Prelude.{ℕ, ◌+◌, ◌*◌, ◌<◌, ◌≤◌}
use Rattle.std.proofs.Common.{arith}
use Rattle.std.proofs.lemmas.Nat.{mul-le, mul-add-lt}
use Rattle.std.proofs.lemmas.List.{length-take-le}
use Rattle.feeders.specs.Motion.{Valid}
use Rattle.trays.specs.declared.tray.Tray.{Tray}
use Rattle.trays.specs.Tray.{Keeps, tray_motion}
use Rattle.trays.specs.Held.{grid_of}
use Rattle.trays.specs.Tilting.{tray_valid}

-- there is an entry for each cell
pub held_size : (t : Tray) → t.rows * t.columns ≤ 256
held_size t = mul-le t.rows t.columns 16 16 t.few_rows t.few_columns

pub held_index : (t : Tray) (r c : ℕ) → r < t.rows → c < t.columns → r * t.columns + c < t.rows * t.columns
held_index t r c hr hc = omega (arith, mul-add-lt r t.columns c t.rows hr hc)

pub held_keeps : (t : Tray) → Keeps (grid_of t)
held_keeps t = record {
  some_row = t.some_row;
  few_rows = t.few_rows;
  some_column = t.some_column;
  few_columns = t.few_columns;
  whole = length-take-le (t.rows * t.columns) t.cells (omega (arith, held_size t));
  some_free = omega (arith, t.counted, t.some_free);
  few_free = omega (arith, t.counted, t.few_free);
}

pub held_valid : (t : Tray) → Valid (tray_motion (grid_of t))
held_valid t = tray_valid (grid_of t) (held_keeps t)
