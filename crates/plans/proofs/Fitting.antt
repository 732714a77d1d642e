-- Which lists a plan has room for.
use Rattle.std.proofs.Common.{◌≡◌, ℕ, ◌≤◌, ◌<◌, leb, List, length, Ok, Err, arith, length-take}
use Rattle.std.proofs.lemmas.Bool.{cond-true, cond-false, le-leb, lt-leb}
use Rattle.refusals.specs.declared.Refusal.TheVariants.{PlanTooLong}
use Rattle.plans.specs.Calls.{put}
use Rattle.plans.specs.Held.{list_of}
use Rattle.plans.specs.declared.plan.Plan.{Plan}

-- a plan never has more actions than there is room for
pub length-list_of_le : (p : Plan) → length (list_of p) ≤ 16384
length-list_of_le p = simp length-take (omega (arith, p.actions.fits))

pub put-fits : (xs : List ℕ) → length xs ≤ 16384 → put xs ≡ Ok xs
put-fits xs h = cond-true (leb (length xs) 16384) (Ok xs) (Err PlanTooLong) (le-leb (length xs) 16384 h)

pub put_too_long : (xs : List ℕ) → 16384 < length xs → put xs ≡ Err PlanTooLong
put_too_long xs h = cond-false (leb (length xs) 16384) (Ok xs) (Err PlanTooLong) (lt-leb (length xs) 16384 h)
