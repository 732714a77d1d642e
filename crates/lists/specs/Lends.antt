-- What a list ends as, where one of its items is lent.
use Rattle.std.specs.Prelude.{ℕ, Option, slice_set}
use Rattle.std.specs.Borrow.{LendsIf, Fml, RattleType, MutBor}
use Rattle.lists.specs.declared.bounded.Bounded.{Bounded}
use Rattle.lists.specs.contracts.bounded.Bounded.{the_row}

-- b with x in place i
abbrev pub with_item : {T : Type 0} {N : ℕ} → Bounded T N → ℕ → T → Bounded T N
with_item b i x = record b { items = slice_set b.items i x }

-- Once the borrow r ends, place i has the last value written through r; at `None` the list stays as it is.
abbrev pub LendsItem : (T N : RattleType) → MutBor (the_row T N).Denot → ℕ → Option (MutBor T.Denot) → Fml
LendsItem T N b i r = LendsIf (the_row T N) T b r (with_item b.now i) b.now
