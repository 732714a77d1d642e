-- The rounds of the pair rule are tested by a table of the distances of the pairs.
use Rattle.std.proofs.Common.{◌≡◌, ℕ, ◌+◌, ◌^◌, ◌<◌, ◌≤◌, Bool, not, ◌&&◌, ◌||◌, T, eqb, ltb, leb, ◌⊎◌, List, [], ◌∷◌, ◌++◌, sym, subst, inl, inr, arith, eqb→eq, ltb→lt, leb→le, T_not}
use lib.Dec.{not_T}
use Rattle.std.proofs.lemmas.Bool.{cases_eq}
use Rattle.feeders.specs.Motion.{Motion, Valid}
use Rattle.feeders.specs.Sets.{has}
use Rattle.feeders.specs.Image.{image}
use Rattle.feeders.proofs.Sets.{T-or, has-below}
use Rattle.graphs.specs.Distance.{Distance, NoDistance, Way}
use Rattle.graphs.specs.Certificate.{none, told, every_below, Passes}
use Rattle.graphs.specs.Pairs.{start, pair_node, pair_graph}
use Rattle.graphs.specs.PairRule.{size_of, Nearest, PairRule, Stuck}
use Rattle.graphs.specs.PairRule.PairRule.{met, bring}
use Rattle.graphs.specs.PairRule.Stuck.{apart, after}
use Rattle.graphs.proofs.Distances.{distance_not-none}
use Rattle.graphs.proofs.Numbering.{pair_inside, pair_sound}
use Rattle.graphs.proofs.Certificates.{every_below_each, passes_distance, passes_none, told-Distance}
use Rattle.histories.proofs.Words.{T_and}
use Rattle.cases.proofs.Ways.{is_way, way_sound}

-- one round: the nearest pair, and its way
pub record Round : Type 0 where
  pub lesser : ℕ
  pub greater : ℕ
  pub way : List ℕ

-- the plan of the rounds
abbrev pub joined : List Round → List ℕ
joined [] = []
joined (r ∷ rs) = r.way ++ joined rs

-- p and q belong to s, and their pair has a distance
abbrev pub counts : List ℕ → ℕ → ℕ → ℕ → Bool
counts table s p q = has s p && (has s q && not (eqb (told table (pair_node p q)) none))

-- the pair p < q comes before the pair p₁ < q₁, or is the same
abbrev pub not_after : List ℕ → ℕ → ℕ → ℕ → ℕ → Bool
not_after table p q p₁ q₁ =
    ltb (told table (pair_node p q)) (told table (pair_node p₁ q₁))
    || (eqb (told table (pair_node p q)) (told table (pair_node p₁ q₁)) && (ltb p p₁ || (eqb p p₁ && leb q q₁)))

-- the pair p < q of s comes before every other of n poses
abbrev pub is_first : ℕ → List ℕ → ℕ → ℕ → ℕ → Bool
is_first n table s p q = every_below n (λ q₁. every_below q₁ (λ p₁. not (counts table s p₁ q₁) || not_after table p q p₁ q₁))

abbrev pub is_round : Motion → ℕ → List ℕ → ℕ → Round → Bool
is_round m perm table s r =
    ltb s (2 ^ m.poses)
    && (ltb r.lesser r.greater
    && (counts table s r.lesser r.greater
    && (is_first m.poses table s r.lesser r.greater
    && is_way (pair_graph m) perm table (pair_node r.lesser r.greater) r.way)))

-- the rounds lead from s to one pose
abbrev pub is_plan : Motion → ℕ → List ℕ → ℕ → List Round → Bool
is_plan m perm table s [] = eqb (size_of s) 1
is_plan m perm table s (r ∷ rs) = is_round m perm table s r && is_plan m perm table (image m s r.way) rs

-- no pair of s has a distance
abbrev pub is_apart : Motion → List ℕ → ℕ → Bool
is_apart m table s = every_below m.poses (λ q. every_below q (λ p. not (counts table s p q)))

-- the rounds lead from s to a set of two poses or more, none of whose pairs has a distance
abbrev pub is_stuck : Motion → ℕ → List ℕ → ℕ → List Round → Bool
is_stuck m perm table s [] = ltb s (2 ^ m.poses) && (leb 2 (size_of s) && is_apart m table s)
is_stuck m perm table s (r ∷ rs) = is_round m perm table s r && is_stuck m perm table (image m s r.way) rs

-- ---- tests

counts_parts : (table : List ℕ) (s p q : ℕ) → T (counts table s p q) → T (has s p) × T (has s q) × (told table (pair_node p q) ≡ none → ⊥)
counts_parts table s p q t =
    let a = (T_and (has s p) (has s q && not (eqb (told table (pair_node p q)) none))).0 t in
    let b = (T_and (has s q) (not (eqb (told table (pair_node p q)) none))).0 a.1 in
    (a.0, b.0, λ e. T_not (eqb (told table (pair_node p q)) none) b.1 (subst (λ (k : ℕ). T (eqb k none)) (sym e) tt))

counts_from : (table : List ℕ) (s p q : ℕ) → T (has s p) → T (has s q) → (told table (pair_node p q) ≡ none → ⊥) → T (counts table s p q)
counts_from table s p q hp hq f =
    (T_and (has s p) (has s q && not (eqb (told table (pair_node p q)) none))).1
    (hp, (T_and (has s q) (not (eqb (told table (pair_node p q)) none))).1 (hq, not_T (eqb (told table (pair_node p q)) none) (λ t. f (eqb→eq (told table (pair_node p q)) none t))))

not_after_sound : (table : List ℕ) (p q p₁ q₁ : ℕ) → T (not_after table p q p₁ q₁) → (told table (pair_node p q) < told table (pair_node p₁ q₁)) ⊎ ((told table (pair_node p q) ≡ told table (pair_node p₁ q₁)) × ((p < p₁) ⊎ ((p ≡ p₁) × (q ≤ q₁))))
not_after_sound table p q p₁ q₁ t =
    elim ((T-or (ltb d d₁) (eqb d d₁ && (ltb p p₁ || (eqb p p₁ && leb q q₁)))).0 t) [
      | inl l ↦ inl (ltb→lt d d₁ l)
      | inr u ↦
          let e = (T_and (eqb d d₁) (ltb p p₁ || (eqb p p₁ && leb q q₁))).0 u in
          inr (
            eqb→eq d d₁ e.0,
            elim ((T-or (ltb p p₁) (eqb p p₁ && leb q q₁)).0 e.1) [
              | inl l ↦ inl (ltb→lt p p₁ l)
              | inr v ↦ let r = (T_and (eqb p p₁) (leb q q₁)).0 v in inr (eqb→eq p p₁ r.0, leb→le q q₁ r.1)
            ],
          )
    ]
  where
    d : ℕ
    d = told table (pair_node p q)

    d₁ : ℕ
    d₁ = told table (pair_node p₁ q₁)

-- a pair of poses is a node of the pair ground
pair_node_lt : (m : Motion) (p q : ℕ) → p < q → q < m.poses → pair_node p q < start m.poses + 1
pair_node_lt m p q h k = omega (arith, pair_inside p q m.poses h k)

module _ (m : Motion) (perm : ℕ) (table : List ℕ) (ok : Valid m) (pass : Passes (pair_graph m) perm table) where
  none_of : (p q : ℕ) → p < q → q < m.poses → told table (pair_node p q) ≡ none → NoDistance (pair_graph m) perm (pair_node p q)
  none_of p q l h e = passes_none (pair_graph m) perm table (pair_node p q) (pair_sound m ok) pass (pair_node_lt m p q l h) e

  nearest_sound : (s p q : ℕ) → s < 2 ^ m.poses → p < q → T (counts table s p q) → T (is_first m.poses table s p q) → Nearest m perm s p q (told table (pair_node p q))
  nearest_sound s p q h l c f =
      let k = counts_parts table s p q c in
      record {
        ordered = l;
        lesser = k.0;
        greater = k.1;
        away = passes_distance (pair_graph m) perm table (pair_node p q) (pair_sound m ok) pass (pair_node_lt m p q l (has-below m.poses s q h k.1)) k.2;
        first = first;
      }
    where
      first : (p₁ q₁ d₁ : ℕ) → p₁ < q₁ → T (has s p₁) → T (has s q₁) → Distance (pair_graph m) perm (pair_node p₁ q₁) d₁ → (told table (pair_node p q) < d₁) ⊎ ((told table (pair_node p q) ≡ d₁) × ((p < p₁) ⊎ ((p ≡ p₁) × (q ≤ q₁))))
      first p₁ q₁ d₁ l₁ hp hq away =
          let below = has-below m.poses s q₁ h hq in
          let e : told table (pair_node p₁ q₁) ≡ d₁ = told-Distance (pair_graph m) perm table (pair_node p₁ q₁) d₁ (pair_sound m ok) pass (pair_node_lt m p₁ q₁ l₁ below) away in
          let row = every_below_each m.poses (λ q₁. every_below q₁ (λ p₁. not (counts table s p₁ q₁) || not_after table p q p₁ q₁)) f q₁ below in
          elim ((T-or (not (counts table s p₁ q₁)) (not_after table p q p₁ q₁)).0 (every_below_each q₁ (λ p₁. not (counts table s p₁ q₁) || not_after table p q p₁ q₁) row p₁ l₁)) [
            | inl out ↦ absurd (T_not (counts table s p₁ q₁) out (counts_from table s p₁ q₁ hp hq (λ z. distance_not-none (pair_graph m) perm (pair_node p₁ q₁) d₁ away (none_of p₁ q₁ l₁ below z))))
            | inr u ↦ subst (λ (d : ℕ). (told table (pair_node p q) < d) ⊎ ((told table (pair_node p q) ≡ d) × ((p < p₁) ⊎ ((p ≡ p₁) × (q ≤ q₁))))) e (not_after_sound table p q p₁ q₁ u)
          ]

  round_sound : (s : ℕ) (r : Round) → T (is_round m perm table s r) → Nearest m perm s r.lesser r.greater (told table (pair_node r.lesser r.greater)) × Way (pair_graph m) perm (pair_node r.lesser r.greater) r.way
  round_sound s r t =
      let node = pair_node r.lesser r.greater in
      let a = (T_and (ltb s (2 ^ m.poses)) _).0 t in
      let b = (T_and (ltb r.lesser r.greater) _).0 a.1 in
      let c = (T_and (counts table s r.lesser r.greater) _).0 b.1 in
      let d = (T_and (is_first m.poses table s r.lesser r.greater) (is_way (pair_graph m) perm table node r.way)).0 c.1 in
      let below = ltb→lt s (2 ^ m.poses) a.0 in
      let ordered = ltb→lt r.lesser r.greater b.0 in
      let inside = has-below m.poses s r.greater below (counts_parts table s r.lesser r.greater c.0).1 in
      (nearest_sound s r.lesser r.greater below ordered c.0 d.0, way_sound (pair_graph m) perm table (pair_sound m ok) pass node r.way (pair_node_lt m r.lesser r.greater ordered inside) d.1)

  pub plan_sound : (s : ℕ) (rs : List Round) → T (is_plan m perm table s rs) → PairRule m perm s (joined rs)
  plan_sound s [] t = met (eqb→eq (size_of s) 1 t)
  plan_sound s (r ∷ rs) t =
      let parts = (T_and (is_round m perm table s r) (is_plan m perm table (image m s r.way) rs)).0 t in
      let k = round_sound s r parts.0 in
      bring k.0 k.1 (plan_sound (image m s r.way) rs parts.1)

  apart_sound : (s : ℕ) → s < 2 ^ m.poses → T (is_apart m table s) → (p q : ℕ) → p < q → T (has s p) → T (has s q) → NoDistance (pair_graph m) perm (pair_node p q)
  apart_sound s h t p q l hp hq =
      let below = has-below m.poses s q h hq in
      let row = every_below_each m.poses (λ q. every_below q (λ p. not (counts table s p q))) t q below in
      let out = every_below_each q (λ p. not (counts table s p q)) row p l in
      elim (cases_eq (told table (pair_node p q)) none) [
        | inl e ↦ none_of p q l below e
        | inr f ↦ absurd (T_not (counts table s p q) out (counts_from table s p q hp hq f))
      ]

  pub stuck_sound : (s : ℕ) (rs : List Round) → T (is_stuck m perm table s rs) → Stuck m perm s
  stuck_sound s [] t =
      let a = (T_and (ltb s (2 ^ m.poses)) (leb 2 (size_of s) && is_apart m table s)).0 t in
      let b = (T_and (leb 2 (size_of s)) (is_apart m table s)).0 a.1 in
      apart (leb→le 2 (size_of s) b.0) (apart_sound s (ltb→lt s (2 ^ m.poses) a.0) b.1)
  stuck_sound s (r ∷ rs) t =
      let parts = (T_and (is_round m perm table s r) (is_stuck m perm table (image m s r.way) rs)).0 t in
      let k = round_sound s r parts.0 in
      after k.0 k.1 (stuck_sound (image m s r.way) rs parts.1)
