-- The image of a set of poses under a list of actions: each pose of the set is carried on its own.
use Rattle.std.specs.Prelude.{ℕ, zero, suc, ◌^◌, cond, List, Ok, Err, Result, nat_lt}
use Rattle.refusals.specs.declared.Refusal.{Refusal}
use Rattle.refusals.specs.declared.Refusal.TheVariants.{NoPose, NoAction}
use Rattle.feeders.specs.Motion.{Motion, brings}
use Rattle.feeders.specs.Sets.{has, with, all_below}

-- where the list brings those members of s that are below p
abbrev pub gathered : Motion → ℕ → List ℕ → ℕ → ℕ
gathered m s w zero = 0
gathered m s w (suc p) = cond (has s p) (with (gathered m s w p) (brings m p w)) (gathered m s w p)

abbrev pub image : Motion → ℕ → List ℕ → ℕ
image m s w = gathered m s w m.poses

-- The answer to "where does the list bring the set": a set with an absent pose is refused first, then a list with an absent action.
abbrev pub imaged : Motion → ℕ → List ℕ → Result ℕ Refusal
imaged m s w = cond (nat_lt s (2 ^ m.poses)) (cond (all_below m.actions w) (Ok (image m s w)) (Err NoAction)) (Err NoPose)
