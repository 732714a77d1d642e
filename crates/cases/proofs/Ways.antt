-- A claimed way is tested by a table of distances.
use Rattle.std.proofs.Common.{◌≡◌, ℕ, suc, ◌+◌, ◌<◌, ◌≤◌, Bool, not, ◌&&◌, T, eqb, ltb, List, [], ◌∷◌, refl, subst, inl, inr, arith, eqb→eq, ltb→lt, T_not}
use lib.Dec.{eqb_refl}
use Rattle.std.proofs.lemmas.Bool.{cases_lt}
use Rattle.feeders.specs.Sets.{has}
use Rattle.graphs.specs.Graph.{Graph, Sound}
use Rattle.graphs.specs.Distance.{Usable, Distance, First, Way, there, onward}
use Rattle.graphs.specs.Certificate.{none, told, every_below, Passes}
use Rattle.graphs.proofs.Certificates.{every_below_each, passes_distance, passes_first_at}
use Rattle.histories.proofs.Words.{T_and}

-- label a is permitted and leads from v one nearer
abbrev pub nearer : Graph → ℕ → List ℕ → ℕ → ℕ → Bool
nearer g s table v a = has s a && eqb (told table (g.next v a) + 1) (told table v)

-- and it is the lowest such label of the ground
abbrev pub lowest_nearer : Graph → ℕ → List ℕ → ℕ → ℕ → Bool
lowest_nearer g s table v a = ltb a g.labels && (nearer g s table v a && every_below a (λ b. not (nearer g s table v b)))

abbrev pub is_way : Graph → ℕ → List ℕ → ℕ → List ℕ → Bool
is_way g s table v [] = g.goal v
is_way g s table v (a ∷ w) = lowest_nearer g s table v a && is_way g s table (g.next v a) w

module _ (g : Graph) (s : ℕ) (table : List ℕ) (h : Sound g) (p : Passes g s table) where
  nearer_parts : (v a : ℕ) → T (nearer g s table v a) → T (has s a) × (told table (g.next v a) + 1 ≡ told table v)
  nearer_parts v a t =
      let r = (T_and (has s a) (eqb (told table (g.next v a) + 1) (told table v))).0 t in
      (r.0, eqb→eq (told table (g.next v a) + 1) (told table v) r.1)

  nearer_from : (v a : ℕ) → T (has s a) → told table (g.next v a) + 1 ≡ told table v → T (nearer g s table v a)
  nearer_from v a u e =
      (T_and (has s a) (eqb (told table (g.next v a) + 1) (told table v))).1 (u, subst (λ (k : ℕ). T (eqb (told table (g.next v a) + 1) k)) e (eqb_refl (told table (g.next v a) + 1)))

  first_sound : (v a : ℕ) → v < g.nodes → T (lowest_nearer g s table v a) → Distance g s v (suc (told table (g.next v a))) × First g s v (told table (g.next v a)) a
  first_sound v a l t = (
    subst (Distance g s v) up (passes_distance g s table v h p l reached),
    passes_first_at g s table v (told table (g.next v a)) a h p l (omega (arith, p.small v l, up)) usable refl lowest,
  )
    where
      parts : T (ltb a g.labels) × T (nearer g s table v a && every_below a (λ b. not (nearer g s table v b)))
      parts = (T_and (ltb a g.labels) (nearer g s table v a && every_below a (λ b. not (nearer g s table v b)))).0 t

      tests : T (nearer g s table v a) × T (every_below a (λ b. not (nearer g s table v b)))
      tests = (T_and (nearer g s table v a) (every_below a (λ b. not (nearer g s table v b)))).0 parts.1

      usable : Usable g s a
      usable = (ltb→lt a g.labels parts.0, (nearer_parts v a tests.0).0)

      up : told table v ≡ suc (told table (g.next v a))
      up = omega (arith, (nearer_parts v a tests.0).1)

      reached : told table v ≡ none → ⊥
      reached e = omega (arith, p.closed v l e a usable, up)

      lowest : (b : ℕ) → Usable g s b → told table (g.next v b) ≡ told table (g.next v a) → a ≤ b
      lowest b u e =
          elim (cases_lt b a) [
            | inl k ↦ absurd (T_not (nearer g s table v b) (every_below_each a (λ b. not (nearer g s table v b)) tests.1 b k) (nearer_from v b u.1 (omega (arith, up))))
            | inr k ↦ k
          ]

  pub way_sound : (v : ℕ) (w : List ℕ) → v < g.nodes → T (is_way g s table v w) → Way g s v w
  way_sound v [] l t = there t
  way_sound v (a ∷ w) l t =
      let parts = (T_and (lowest_nearer g s table v a) (is_way g s table (g.next v a) w)).0 t in
      let r = first_sound v a l parts.0 in
      onward r.0 r.1 (way_sound (g.next v a) w (h.stays v a l r.1.usable.0) parts.1)
