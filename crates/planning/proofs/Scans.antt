-- What the look for the nearest pair finds, in the words of distances.
use Rattle.std.proofs.Common.{◌≡◌, ℕ, ◌+◌, ◌-◌, ◌^◌, ◌<◌, Bool, true, false, cond, ◌&&◌, T, IsTrue, List, Some, None, Ok, Option, sym, refl, ap, ◌∙◌, subst, arith}
use Rattle.std.specs.Option.{option_map}
use Rattle.std.proofs.lemmas.Option.{none-some, same_Some}
use Rattle.feeders.specs.Motion.{Motion, Valid}
use Rattle.feeders.specs.Sets.{has}
use Rattle.feeders.proofs.Sets.{has-below, true_of_T}
use Rattle.graphs.specs.Distance.{Distance, NoDistance}
use Rattle.graphs.specs.Certificate.{Passes, passes}
use Rattle.graphs.specs.Pairs.{start, pair_node, pair_graph}
use Rattle.graphs.proofs.Distances.{distance_unique, distance_not-none}
use Rattle.graphs.proofs.Numbering.{pair_inside, pair_sound}
use Rattle.grounds.specs.Reach.{entry_of, Away}
use Rattle.grounds.proofs.Searches.{entry_away, passing}
use Rattle.planning.specs.declared.nearest.Pair.{Pair}
use Rattle.planning.specs.Nearest.{pair_of, row_of, nearest_of, Found}
use Rattle.planning.proofs.Firsts.{Before, before_both, FirstOf, FirstFound, first_found}

-- what a pair that the table gives is made of
parts : (a b : Bool) (o : Option ℕ) (p q : ℕ) (x : Pair) → cond (a && b) (option_map {U = Pair} (λ d. record { away = d; p = p; q = q }) o) None ≡ Some x → T a × T b × ((d : ℕ) × (o ≡ Some d) × (x ≡ record { away = d; p = p; q = q }))
parts true true (Some d) p q x e = (tt, tt, (d, refl, sym (same_Some (record { away = d; p = p; q = q }) x e)))
parts true true None p q x e = absurd (none-some x e)
parts true false o p q x e = absurd (none-some x e)
parts false b o p q x e = absurd (none-some x e)

module _ (m : Motion) (perm s : ℕ) (table : List ℕ) (ok : Valid m) (small : s < 2 ^ m.poses) (passes : Passes (pair_graph m) perm table) where
  below : (q : ℕ) → T (has s q) → q < m.poses
  below q u = has-below m.poses s q small u

  inside : (p q : ℕ) → p < q → T (has s q) → pair_node p q < start m.poses + 1
  inside p q l u = omega (arith, pair_inside p q m.poses l (below q u))

  -- what the table has for a pair of the set
  entry_is : (p q : ℕ) → p < q → T (has s q) → (o : Option ℕ) → entry_of table (pair_node p q) ≡ o → Away (pair_graph m) perm (pair_node p q) (Ok o)
  entry_is p q l u o e = entry_away (pair_graph m) perm table (pair_node p q) (pair_sound m ok) passes (inside p q l u) o (sym e)

  pair_is : (p q : ℕ) → T (has s p) → T (has s q) → pair_of table s p q ≡ option_map {U = Pair} (λ d. record { away = d; p = p; q = q }) (entry_of table (pair_node p q))
  pair_is p q t u = rw (true_of_T (has s p) t, true_of_T (has s q) u)

  at_distance : (p q d : ℕ) → p < q → T (has s p) → T (has s q) → Distance (pair_graph m) perm (pair_node p q) d → pair_of table s p q ≡ Some (record { away = d; p = p; q = q })
  at_distance p q d l t u x = pair_is p q t u ∙ go (entry_of table (pair_node p q)) refl
    where
      go : (o : Option ℕ) → entry_of table (pair_node p q) ≡ o → option_map {U = Pair} (λ c. record { away = c; p = p; q = q }) o ≡ Some (record { away = d; p = p; q = q })
      go None e = absurd (distance_not-none (pair_graph m) perm (pair_node p q) d x (entry_is p q l u None e).1)
      go (Some c) e = let same = distance_unique (pair_graph m) perm (pair_node p q) c d (entry_is p q l u (Some c) e).1 x in ap (λ k. Some (record { away = k; p = p; q = q })) same

  without : (p q : ℕ) → p < q → T (has s p) → T (has s q) → pair_of table s p q ≡ None → NoDistance (pair_graph m) perm (pair_node p q)
  without p q l t u f = go (entry_of table (pair_node p q)) refl
    where
      go : (o : Option ℕ) → entry_of table (pair_node p q) ≡ o → NoDistance (pair_graph m) perm (pair_node p q)
      go None e = (entry_is p q l u None e).1
      go (Some c) e = absurd (none-some (record { away = c; p = p; q = q }) (sym f ∙ pair_is p q t u ∙ ap (option_map {U = Pair} (λ d. record { away = d; p = p; q = q })) e))

  row : (p : ℕ) (r : Option Pair) → row_of table s p ≡ r → FirstFound (pair_of table s p) (p + 1) (32 - (p + 1)) r
  row p r e = subst (FirstFound (pair_of table s p) (p + 1) (32 - (p + 1))) e (first_found (pair_of table s p) (32 - (p + 1)) (p + 1))

  -- the first pair of the rows comes before each pair of the set, or is that pair
  comes_first : (b : Pair) → FirstOf (row_of table s) 0 32 b → (p q d : ℕ) → p < q → T (has s p) → T (has s q) → Distance (pair_graph m) perm (pair_node p q) d → Before b (record { away = d; p = p; q = q })
  comes_first b r p q d l t u x = go (row_of table s p) refl
    where
      few : q < 32
      few = omega (arith, below q u, ok.few_poses)

      there : pair_of table s p q ≡ Some (record { away = d; p = p; q = q })
      there = at_distance p q d l t u x

      go : (o : Option Pair) → row_of table s p ≡ o → Before b (record { away = d; p = p; q = q })
      go None e = absurd (none-some (record { away = d; p = p; q = q }) (sym (row p None e q (omega arith) (omega (arith, few))) ∙ there))
      go (Some c) e = before_both b c (record { away = d; p = p; q = q }) (r.first p c (omega arith) (omega (arith, few)) e) ((row p (Some c) e).first q (record { away = d; p = p; q = q }) (omega arith) (omega (arith, few)) there)

  pub nearest_found : (r : Option Pair) → nearest_of table s ≡ r → Found m perm s r
  nearest_found None e = λ p q l t u.
      let few : q < 32 = omega (arith, below q u, ok.few_poses) in
      let no_row = subst (FirstFound (row_of table s) 0 32) e (first_found (row_of table s) 32 0) p (omega arith) (omega arith) in
      without p q l t u (row p None no_row q (omega arith) (omega arith))
  nearest_found (Some b) e =
      let r = subst (FirstFound (row_of table s) 0 32) e (first_found (row_of table s) 32 0) in
      let f = row r.at (Some b) r.is in
      let x = parts (has s r.at) (has s f.at) (entry_of table (pair_node r.at f.at)) r.at f.at b f.is in
      let l : r.at < f.at = omega (arith, f.low) in
      subst (λ (c : Pair). Found m perm s (Some c)) (sym x.2.2) (record {
        ordered = l;
        lesser = x.0;
        greater = x.1;
        away = (entry_is r.at f.at l x.1 (Some x.2.0) x.2.1).1;
        first = λ p q d k t u y. subst (λ (c : Pair). Before c (record { away = d; p = p; q = q })) x.2.2 (comes_first b r p q d k t u y);
      })

-- the same of the table of a ground whose feeder has the motion k
pub look : (m k : Motion) (perm by s : ℕ) (table : List ℕ) → Valid m → s < 2 ^ m.poses → k ≡ m → by ≡ perm → IsTrue (passes (pair_graph k) by table) → (r : Option Pair) → nearest_of table s ≡ r → Found m perm s r
look m k perm by s table ok small same by_is t = nearest_found m perm s table ok small (rw (same, by_is) at (passing (pair_graph k) by table t))
