-- A way appended to a list, one label after the other.
use Rattle.std.proofs.Common.{◌≡◌, ℕ, zero, suc, ◌<◌, T, List, [], ◌∷◌, ◌++◌, length, Some, None, Ok, Result, sym, ap, ◌∙◌, subst, inl, inr, append_assoc, append-nil, arith, length-append}
use Rattle.std.proofs.lemmas.Bool.{cases_lt}
use Rattle.refusals.specs.declared.Refusal.{Refusal}
use Rattle.refusals.specs.Outcomes.{Leaves}
use Rattle.plans.specs.declared.plan.Plan.{Plan}
use Rattle.plans.specs.Held.{list_of}
use Rattle.plans.specs.Calls.{put, pushed}
use Rattle.plans.proofs.Fitting.{put-fits, put_too_long}
use Rattle.graphs.specs.Graph.{Graph, Sound}
use Rattle.graphs.specs.Distance.{Distance, Way}
use Rattle.graphs.specs.Distance.Way.{there, onward}
use Rattle.graphs.proofs.Distances.{distance_unique, distance_zero}
use Rattle.grounds.specs.Reach.{StepsTo}
use Rattle.planning.specs.Walk.{Extends, Walking}

module _ (g : Graph) (s v u : ℕ) (before after : List ℕ) (ok : Sound g) (walking : Walking g s v u before after) where
  -- label a is the next one of the way, and leads to x
  pub walk_more : (a x : ℕ) (more : List ℕ) → StepsTo g s u (Some (a, x)) → more ≡ after ++ (a ∷ []) → Walking g s v x before more
  walk_more a x more step is = record {
    fits = record {
      inside = subst (λ (k : ℕ). k < g.nodes) (sym step.2) (ok.stays u a step.0 step.1.2.usable.0);
      left = step.1.0;
      away = subst (λ (k : ℕ). Distance g s k step.1.0) (sym step.2) step.1.2.nearer;
      room = omega (arith, distance_unique g s u walking.fits.left (suc step.1.0) walking.fits.away step.1.1, ap length is, length-append after (a ∷ []), walking.fits.room);
    };
    part = walking.part ++ (a ∷ []);
    joined = is ∙ ap (λ (l : List ℕ). l ++ (a ∷ [])) walking.joined ∙ append_assoc before walking.part (a ∷ []);
    rest = λ w y. subst (Way g s v) (sym (append_assoc walking.part (a ∷ []) w)) (walking.rest (a ∷ w) (onward step.1.1 step.1.2 (subst (λ (k : ℕ). Way g s k w) step.2 y)));
  }

  pub walk_ends : StepsTo g s u None → Extends g s v before after
  walk_ends none-more = record {
    way = walking.part;
    is = subst (Way g s v) (append-nil walking.part) (walking.rest [] (there (goal walking.fits.left walking.fits.away)));
    joined = walking.joined;
  }
    where
      goal : (k : ℕ) → Distance g s u k → T (g.goal u)
      goal zero away = distance_zero g s u away
      goal (suc k) away = absurd (none-more k walking.fits.inside away)

-- ---- one action pushed

put_is : (xs ys : List ℕ) → put xs ≡ Ok ys → ys ≡ xs
put_is xs ys e =
    elim (cases_lt 16384 (length xs)) [
      | inl l ↦ let f = put_too_long xs l in cc
      | inr g ↦ let f = put-fits xs g in cc
    ]

pub pushed_is : {U : Type 0} (xs : List ℕ) (a : ℕ) (before after : Plan) (r : Result U Refusal) (u : U) → r ≡ Ok u → Leaves list_of (pushed xs a) before after r → list_of after ≡ xs ++ (a ∷ [])
pushed_is xs a before after r u e h = put_is (xs ++ (a ∷ [])) (list_of after) (subst (Leaves list_of (pushed xs a) before after) e h)
