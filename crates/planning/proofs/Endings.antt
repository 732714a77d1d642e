-- How the planner's answers meet what is promised of them.
use Rattle.std.proofs.Common.{◌≡◌, ℕ, ◌^◌, ◌<◌, ◌≤◌, List, Ok, Err, sym, refl, subst, not-le_of_lt, le_of_eq, le_trans, not-suc-le-zero}
use Rattle.refusals.specs.declared.Refusal.TheVariants.{NoPose, CannotOrient}
use Rattle.feeders.specs.Motion.{Motion, Valid}
use Rattle.feeders.proofs.Images.{image-below}
use Rattle.graphs.specs.PairRule.{PairRule, Stuck, Orients, every}
use Rattle.graphs.proofs.Sizes.{members-zero, image-size, usable_below}
use Rattle.graphs.proofs.PairRules.{pair_laws}
use Rattle.planning.specs.Planned.{Exact}

module _ {U : Type 0} (m : Motion) (perm s : ℕ) (ok : Valid m) where
  pub exact_planned : (x : U) (w : List ℕ) → s < 2 ^ m.poses → PairRule m perm s w → Exact m perm s (Ok x)
  exact_planned x w small r u a e = (λ f. absurd (cc), λ f. absurd (f w ((pair_laws m perm ok).orients s w small r)))

  pub exact_stuck : Stuck m perm s → Exact {U = U} m perm s (Err CannotOrient)
  exact_stuck t u a e = (λ f w o. (pair_laws m perm ok).exact u a (subst (Stuck m perm) e t) w (subst (λ (x : ℕ). Orients m perm x w) e o), λ f. refl)

  -- no list brings an empty set to one pose
  pub exact_empty : s ≡ 0 → Exact {U = U} m perm s (Err CannotOrient)
  exact_empty z u a e = (λ f w o. none w (subst (λ (x : ℕ). Orients m perm x w) z o), λ f. refl)
    where
      none : (w : List ℕ) → Orients m perm 0 w → ⊥
      none w o = not-suc-le-zero (le_trans (le_of_eq (sym o.1)) (le_trans (image-size m ok 0 w) (le_of_eq (members-zero 32))))

  -- an image has no absent pose
  pub exact_no_pose : 2 ^ m.poses ≤ s → Exact {U = U} m perm s (Err NoPose)
  exact_no_pose big u a e = absurd (not-le_of_lt (subst (λ (x : ℕ). x < 2 ^ m.poses) (sym e) (image-below m ok (every m) u (usable_below m perm u a))) big)
