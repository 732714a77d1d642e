-- What a list in memory holds.
use Rattle.std.specs.Prelude.{ℕ, List, take}
use Rattle.lists.specs.declared.bounded.Bounded.{Bounded}

-- the items in use are the front of the array
abbrev pub list_of : {T : Type 0} {N : ℕ} → Bounded T N → List T
list_of b = take b.length b.items
