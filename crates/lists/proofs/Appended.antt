-- What a list holds once items that had room were added to it.
use Rattle.std.proofs.Common.{◌≡◌, ℕ, List, ◌++◌, Ok, Err, Result}
use Rattle.lists.specs.declared.full.Full.{Full}
use Rattle.lists.specs.declared.bounded.Bounded.{Bounded}
use Rattle.lists.specs.Calls.{Appends}
use Rattle.lists.specs.Held.{list_of}

-- for callers: the items are the last ones
pub appended : {T : Type 0} {N : ℕ} (xs : List T) (before after : Bounded T N) (r : Result (Unit {0}) Full) (u : Unit {0}) → r ≡ Ok u → Appends xs before after r → list_of after ≡ list_of before ++ xs
appended xs before after (Ok v) u e h = h.1
appended xs before after (Err f) u e h = absurd (cc)
