-- The rounds of the planner: how they start, go on and end, and why the plan has room for them.
use Rattle.std.proofs.Common.{◌≡◌, ℕ, zero, suc, ◌+◌, ◌*◌, ◌/◌, ◌%◌, ◌^◌, ◌<◌, ◌≤◌, count_ones, T, List, [], ◌++◌, length, sym, refl, ap, ◌∙◌, subst, inl, inr, append_assoc, append-nil, mul-le-mul_right, suc-mul, mod-lt, lit<, lt_of_lt_of_le, pow_mono, pos_of_ne-zero, arith, length-append}
use Rattle.std.proofs.lemmas.Bool.{cases_Bool, eqb-true, eqb-false}
use Rattle.std.proofs.lemmas.Nat.{mod-pow-add, pow_pos}
use Rattle.std.proofs.Math.Nat.{mod-one, mod-eq_of_lt}
use lib.Count.{ones_cat, ones-ones}
use Rattle.feeders.specs.Motion.{Motion, Valid}
use Rattle.feeders.specs.Sets.{has, all_below}
use Rattle.feeders.specs.Image.{image}
use Rattle.feeders.proofs.Sets.{T_of_true, has-below, sets_ext_T, not-has-zero}
use Rattle.feeders.proofs.Images.{image-below}
use Rattle.graphs.specs.Distance.{Way, NoDistance}
use Rattle.graphs.specs.Pairs.{start, pair_node, pair_graph}
use Rattle.graphs.specs.PairRule.{members, size_of, Nearest, PairRule, Stuck}
use Rattle.graphs.specs.PairRule.PairRule.{met, bring}
use Rattle.graphs.specs.PairRule.Stuck.{apart, after}
use Rattle.graphs.proofs.Distances.{way_leads, way_length}
use Rattle.graphs.proofs.Bounds.{distance_below}
use Rattle.graphs.proofs.Numbering.{pair_inside, pair_sound, start_few}
use Rattle.graphs.proofs.Meeting.{leads_meets}
use Rattle.graphs.proofs.Sizes.{members-has, members_lacks, members_some, image_shrinks, image_some, size_two, usable_below}
use Rattle.planning.specs.Round.{size, Round}
use Rattle.planning.specs.Walk.{Fits}

-- ---- the number of poses

pub size_is : (s : ℕ) → size s ≡ size_of s
unfolding size
size_is s = refl

members_few : (n s : ℕ) → members n s ≤ n
members_few zero s = omega arith
members_few (suc n) s =
    elim (cases_Bool (has s n)) [
      | inl e ↦ omega (arith, members_few n s, members-has n s (T_of_true (has s n) e))
      | inr e ↦ omega (arith, members_few n s, members_lacks n s e)
    ]

-- the members below n are the digits of what is left at 2 ^ n
members_ones : (n s : ℕ) → members n s ≡ count_ones (s % 2 ^ n)
members_ones zero s = sym (ap count_ones (mod-one s) ∙ ones-ones 0)
members_ones (suc n) s =
    let bit = s / 2 ^ n % 2 in
    let rest = s % 2 ^ n in
    let more : 1 + n ≡ suc n = omega arith in
    let cut : s % 2 ^ suc n ≡ bit * 2 ^ n + rest = subst (λ (k : ℕ). s % 2 ^ k ≡ bit * 2 ^ n + rest) more (mod-pow-add s 1 n) in
    let sum : count_ones (s % 2 ^ suc n) ≡ count_ones bit + count_ones rest = ap count_ones cut ∙ ones_cat n bit rest (mod-lt s {m = 2 ^ n} (pow_pos n)) in
    elim (cases_Bool (has s n)) [
      | inl e ↦ omega (arith, sum, members-has n s (T_of_true (has s n) e), members_ones n s, ap count_ones (eqb-true bit 1 e), ones-ones 1)
      | inr e ↦
          let none : bit ≡ 0 = omega (arith, eqb-false bit 1 e, mod-lt (s / 2 ^ n) {m = 2} (lit< tt)) in
          omega (arith, sum, members_lacks n s e, members_ones n s, ap count_ones none, ones-ones 0)
    ]

size_ones : (s : ℕ) → s < 2 ^ 32 → count_ones s ≡ size s
size_ones s small = sym (size_is s ∙ members_ones 32 s ∙ ap count_ones (mod-eq_of_lt small))

size_few : (s : ℕ) → size s ≤ 32
size_few s = subst (λ (k : ℕ). k ≤ 32) (sym (size_is s)) (members_few 32 s)

-- a set with no pose is 0
members-none : (n s : ℕ) → members n s ≡ 0 → (p : ℕ) → p < n → T (has s p) → ⊥
members-none n s e p l t = omega (arith, members_some n s p l t)

pub size_positive : (n s : ℕ) → n ≤ 32 → s < 2 ^ n → (s ≡ 0 → ⊥) → 1 ≤ size s
size_positive n s few small f =
    subst (λ (k : ℕ). 1 ≤ k) (sym (size_is s))
    (pos_of_ne-zero (λ e. f (sets_ext_T s 0 (λ p t. absurd (members-none 32 s e p (lt_of_lt_of_le (has-below n s p small t) few) t)) (λ p t. absurd (not-has-zero p t)))))

-- ---- numbers

-- two poses or more are left, and at most 32 were there
room : (a here all d k : ℕ) → a + here * k ≤ all * k → 2 ≤ here → all ≤ 32 → d < k + 1 → k ≤ 496 → a + d ≤ 16384
room a here all d k h two few l small =
    omega (arith, mul-le-mul_right k two, mul-le-mul_right k few)

pays : (a b here next all k : ℕ) → a + here * k ≤ all * k → b < k + 1 → next < here → (a + b) + next * k ≤ all * k
pays a b here next all k h l less = omega (arith, mul-le-mul_right k less, suc-mul next k)

pub round-starts : (m : Motion) (perm s : ℕ) → Valid m → s < 2 ^ m.poses → (s ≡ 0 → ⊥) → Round m perm s s []
round-starts m perm s ok small f = record {
  inside = small;
  some = size_positive m.poses s ok.few_poses small f;
  onward = λ rest r. r;
  stuck = λ t. t;
  short = omega arith;
}

module _ (m : Motion) (perm s here : ℕ) (made : List ℕ) (ok : Valid m) (round : Round m perm s here made) where
  module _ (p q d : ℕ) (x : Nearest m perm here p q d) where
    greater_below : q < m.poses
    greater_below = has-below m.poses here q round.inside x.greater

    node_below : pair_node p q < start m.poses + 1
    node_below = let h = pair_inside p q m.poses x.ordered greater_below in omega (arith, h)

    away_few : d < start m.poses + 1
    away_few = distance_below (pair_graph m) perm (pair_node p q) d (pair_sound m ok) node_below x.away

    two_here : 2 ≤ size here
    two_here = subst (λ (k : ℕ). 2 ≤ k) (sym (size_is here)) (size_two here p q x.ordered (lt_of_lt_of_le greater_below ok.few_poses) x.lesser x.greater)

    -- the way of the nearest pair fits into the plan
    pub round_fits : Fits (pair_graph m) perm (pair_node p q) made
    round_fits = record {
      inside = node_below;
      left = d;
      away = x.away;
      room = room (length made) (size here) (size s) d (start m.poses) round.short two_here (size_few s) away_few (start_few m.poses ok.few_poses);
    }

    pub pair_below : (p < q) × (q < m.poses)
    pair_below = (x.ordered, greater_below)

    module _ (w : List ℕ) (y : Way (pair_graph m) perm (pair_node p q) w) where
      pub way_below : T (all_below m.actions w)
      way_below = usable_below m perm w (way_leads (pair_graph m) perm (pair_node p q) w y).0

      pub round_falls : size (image m here w) < size here
      round_falls =
          subst (λ (k : ℕ). k < size here) (sym (size_is (image m here w)))
          (subst (λ (k : ℕ). size_of (image m here w) < k) (sym (size_is here))
          (image_shrinks m ok here w p q x.ordered greater_below x.lesser x.greater
          (leads_meets m ok perm p q w x.ordered greater_below (way_leads (pair_graph m) perm (pair_node p q) w y))))

      some_after : 1 ≤ size (image m here w)
      some_after =
          subst (λ (k : ℕ). 1 ≤ k) (sym (size_is (image m here w)))
          (image_some m ok here w round.inside way_below (subst (λ (k : ℕ). 1 ≤ k) (size_is here) round.some))

      way_few : length w < start m.poses + 1
      way_few = subst (λ (k : ℕ). k < start m.poses + 1) (sym (way_length (pair_graph m) perm (pair_node p q) d w y x.away)) away_few

      pub round_more : Round m perm s (image m here w) (made ++ w)
      round_more = record {
        inside = image-below m ok here w way_below;
        some = some_after;
        onward = λ rest r. subst (PairRule m perm s) (sym (append_assoc made w rest)) (round.onward (w ++ rest) (bring x y r));
        stuck = λ t. round.stuck (after x y t);
        short =
            subst (λ (k : ℕ). k + size (image m here w) * start m.poses ≤ size s * start m.poses) (sym (length-append made w))
            (pays (length made) (length w) (size here) (size (image m here w)) (size s) (start m.poses) round.short way_few round_falls);
      }

  -- the count that the code takes
  pub round_ones : count_ones here ≡ size here
  round_ones = size_ones here (lt_of_lt_of_le round.inside (pow_mono ok.few_poses))

  pub round_met : size here < 2 → PairRule m perm s made
  round_met l =
      let one : size here ≡ 1 = omega (arith, round.some) in
      subst (PairRule m perm s) (append-nil made)
      (round.onward [] (met {s = here} (sym (size_is here) ∙ one)))

  pub round_apart : 2 ≤ size here → ((p q : ℕ) → p < q → T (has here p) → T (has here q) → NoDistance (pair_graph m) perm (pair_node p q)) → Stuck m perm s
  round_apart l none = round.stuck (apart {s = here} (subst (λ (k : ℕ). 2 ≤ k) (size_is here) l) none)
