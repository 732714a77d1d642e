-- What a table that passes says of a node: its distance, and the first label of the way from it.
use Rattle.std.proofs.Common.{◌≡◌, ℕ, zero, suc, ◌<◌, ◌≤◌, Bool, true, eqb, ltb, T, List, Some, None, Ok, Err, Option, is_some, sym, refl, ◌∙◌, subst, inl, inr, arith, IsTrue}
use Rattle.std.proofs.lemmas.Bool.{cases_eq, cond-true, cond-false, lt-ltb, eq-eqb, ne_eqb}
use Rattle.refusals.specs.declared.Refusal.TheVariants.{NoPose}
use Rattle.feeders.proofs.Sets.{T_of_true}
use Rattle.graphs.specs.Graph.{Graph, Sound, is_goal}
use Rattle.graphs.specs.Distance.{Distance, First}
use Rattle.graphs.specs.Certificate.{none, told, Passes, passes}
use Rattle.graphs.specs.Laws.{DistanceLaws}
use Rattle.graphs.proofs.Distances.{distance_unique, distance_not-none, distance_zero, first_unique, way_unique, way_leads, way_distance}
use Rattle.graphs.proofs.Bounds.{distance_below}
use Rattle.graphs.proofs.Certificates.{passes_distance, passes_none, told-Distance, passes_first_at, passes_sound}
use Rattle.grounds.specs.Level.{LeadsTo}
use Rattle.grounds.specs.Reach.{entry_of, Away, StepsTo}

pub distance_laws : DistanceLaws
distance_laws = record {
  one_distance = λ g s v d e _ _. distance_unique g s v d e;
  not_both = λ g s v d _ _. distance_not-none g s v d;
  below = distance_below;
  one_first = λ g s v d a b _ _. first_unique g s v d a b;
  one_way = λ g s v w x _ _. way_unique g s v w x;
  leads = λ g s v w _ _. way_leads g s v w;
  shortest = λ g s v w _ _. way_distance g s v w;
}

module _ (g : Graph) (s : ℕ) (table : List ℕ) (v : ℕ) (h : Sound g) (p : Passes g s table) (l : v < g.nodes) where
  pub entry_away : (o : Option ℕ) → o ≡ entry_of table v → Away g s v (Ok o)
  entry_away o e =
      elim (cases_eq (told table v) none) [
        | inl f ↦ subst (λ x. Away g s v (Ok x)) (sym (e ∙ cond-true (eqb (told table v) none) None (Some (told table v)) (eq-eqb (told table v) none f))) (l, passes_none g s table v h p l f)
        | inr f ↦ subst (λ x. Away g s v (Ok x)) (sym (e ∙ cond-false (eqb (told table v) none) None (Some (told table v)) (ne_eqb (told table v) none f))) (l, passes_distance g s table v h p l f)
      ]

  -- ---- at distance d + 1
  module _ (d : ℕ) (q : Distance g s v (suc d)) where
    told_is : told table v ≡ suc d
    told_is = told-Distance g s table v (suc d) h p l q

    pub away_few : d < none
    away_few = omega (arith, told_is, p.small v l)

    -- the lowest label that leads one nearer is the first
    pub label_first : (a : ℕ) → LeadsTo g s table v d a → ((b : ℕ) → LeadsTo g s table v d b → a ≤ b) → First g s v d a
    label_first a f lowest = passes_first_at g s table v d a h p l away_few f.0 f.1 (λ b u e. lowest b (u, e))

    -- and there is one
    pub some_label : ((b : ℕ) → LeadsTo g s table v d b → ⊥) → ⊥
    some_label none-there =
        let r = p.nearer v l (λ t. omega (arith, told_is, p.goals v l t)) (λ e. distance_not-none g s v (suc d) q (passes_none g s table v h p l e)) in
        none-there r.0 (r.1, omega (arith, told_is, r.2))

-- what stands in the type of distances
pub passing : (g : Graph) (s : ℕ) (table : List ℕ) → IsTrue (passes g s table) → Passes g s table
passing g s table t = passes_sound g s table (T_of_true (passes g s table) t)

-- a node that is reached and no goal has a first label
pub step_there : (g : Graph) (s v d : ℕ) (o : Option (ℕ × ℕ)) → v < g.nodes → (T (g.goal v) → ⊥) → Distance g s v d → StepsTo g s v o → is_some o ≡ true
step_there g s v d (Some a) l n q f = refl
step_there g s v zero None l n q f = absurd (n (distance_zero g s v q))
step_there g s v (suc d) None l n q f = absurd (f d l q)

-- what a ground answers of a node that it has
pub goal_is : (g : Graph) (v : ℕ) (b : Bool) → v < g.nodes → Ok b ≡ is_goal g v → g.goal v ≡ b
goal_is g v b l e = let f = cond-true (ltb v g.nodes) (Ok (g.goal v)) (Err NoPose) (lt-ltb v g.nodes l) in cc
