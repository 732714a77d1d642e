-- What a renumbering table holds.
use Rattle.std.specs.Prelude.{◌≡◌, ℕ, ◌<◌, ◌≤◌, List, length, take, slice_index}
use Rattle.layers.specs.Once.{Fills}
use Rattle.layers.specs.Renumbering.{Numbering, Keeps}
use Rattle.layers.specs.declared.numbering.RenumberTable.{RenumberTable}

abbrev pub numbering_of : RenumberTable → Numbering
numbering_of t = record { count = t.count; number = t.number; place = t.place }

-- every table keeps the rule
pub numbering_kept : (t : RenumberTable) → Keeps (numbering_of t)
numbering_kept t = t.keeps

-- A table that renumbers nothing: each place holds its own number.
pub record Unchanged (t : Numbering) : Type 0 where
  pub none : t.count ≡ 0
  pub own : (p : ℕ) → p < 32 → slice_index t.number p ≡ p

-- The table is filled by the list, which is one that fills a table; past it each place holds its own number.
pub record Filled (list : List ℕ) (t : Numbering) : Type 0 where
  pub fills : Fills list
  pub counted : t.count ≡ length list
  pub front : take (length list) t.number ≡ list
  pub own : (p : ℕ) → length list ≤ p → p < 32 → slice_index t.number p ≡ p
