-- What is asked of actions and lists, under a set of permitted actions.
use Rattle.std.specs.Prelude.{ℕ, cond, List, [], ◌∷◌, Some, None, Ok, Err, Option, Result, nat_lt}
use Rattle.refusals.specs.declared.Refusal.{Refusal}
use Rattle.refusals.specs.declared.Refusal.TheVariants.{NoAction, Barred}
use Rattle.feeders.specs.Motion.{Motion}
use Rattle.feeders.specs.Sets.{has}

-- an absent action is refused first, then a barred one
abbrev pub checked : Motion → ℕ → ℕ → Result ℕ Refusal
checked m perm a = cond (nat_lt a m.actions) (cond (has perm a) (Ok a) (Err Barred)) (Err NoAction)

-- why the first action of the list that is refused is refused
abbrev pub first_bad : Motion → ℕ → List ℕ → Option Refusal
first_bad m perm [] = None
first_bad m perm (a ∷ w) = elim (checked m perm a) [ Ok b ↦ first_bad m perm w | Err e ↦ Some e ]
