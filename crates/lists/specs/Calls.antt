-- What each call that changes a list answers, and what it leaves in it.
use Rattle.std.specs.Prelude.{◌≡◌, ℕ, ◌+◌, ◌<◌, ◌≤◌, List, ◌++◌, length, remove, Option, Some, None, IsNone, Result, Ok, Err, slice_get, slice_set}
use Rattle.lists.specs.declared.full.Full.{Full}
use Rattle.lists.specs.declared.bounded.Bounded.{Bounded}
use Rattle.lists.specs.Held.{list_of}

module _ {T : Type 0} {N : ℕ} where
  -- The items go to the end where all have room; else none does.
  abbrev pub Appends : List T → Bounded T N → Bounded T N → Result (Unit {0}) Full → Type 0
  Appends xs before after (Ok u) = (length (list_of before) + length xs ≤ N) × (list_of after ≡ list_of before ++ xs)
  Appends xs before after (Err e) = (N < length (list_of before) + length xs) × (after ≡ before)

  -- The item at the place is taken out where there is one.
  abbrev pub Removes : ℕ → Bounded T N → Bounded T N → Option T → Type 0
  Removes i before after (Some x) = (i < length (list_of before)) × (slice_get (list_of before) i ≡ Some x) × (list_of after ≡ remove (list_of before) i)
  Removes i before after None = (length (list_of before) ≤ i) × (after ≡ before)

  -- Handed back is the item at the place, where there is one, and y stands there; else nothing changes.
  abbrev pub Replaces : ℕ → T → Bounded T N → Bounded T N → Option T → Type 0
  Replaces i y before after r = (r ≡ slice_get (list_of before) i) × (list_of after ≡ slice_set (list_of before) i y) × (IsNone r → after ≡ before)
