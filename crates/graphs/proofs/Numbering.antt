-- The numbering of the pairs p < q of n poses, and that the grounds of a feeder are sound.
use Rattle.std.proofs.Common.{◌≡◌, ℕ, zero, suc, ◌+◌, ◌-◌, ◌*◌, ◌<◌, ◌≤◌, cond, eqb, ltb, leb, sym, refl, ap, ◌∙◌, subst, inl, inr, le_refl, suc-mul, mul-suc, arith}
use Rattle.std.proofs.lemmas.Bool.{cases_lt, cases_order, cond_both, ltb-true, ltb-false, leb-true, leb-false, eqb-false}
use Rattle.feeders.specs.Motion.{Motion, Valid}
use Rattle.graphs.specs.Graph.{Sound}
use Rattle.graphs.specs.Poses.{pose_graph}
use Rattle.graphs.specs.Pairs.{start, pair_node, upper, lower, node_of, pair_graph}

-- ---- where the pairs begin

pub start_mono : (q n : ℕ) → q ≤ n → start q ≤ start n
start_mono q zero h = let e : q ≡ 0 = omega arith in subst (λ (k : ℕ). start k ≤ 0) (sym e) (omega arith)
start_mono q (suc n) h =
    elim (cases_lt q (suc n)) [
      | inl l ↦ omega (arith, start_mono q n (omega arith))
      | inr r ↦ let e : q ≡ suc n = omega arith in subst (λ (k : ℕ). start q ≤ start k) e (le_refl (start q))
    ]

pub pair_inside : (p q n : ℕ) → p < q → q < n → pair_node p q < start n
pair_inside p q n h k = omega (arith, start_mono (suc q) n k)

pub start_few : (n : ℕ) → n ≤ 32 → start n ≤ 496
start_few n h = start_mono n 32 h

double_next : (n : ℕ) → 2 * start (suc n) ≡ suc n * n
double_next zero = refl
double_next (suc n) = omega (arith, double_next n, suc-mul (suc n) (suc n), mul-suc (suc n) n)

pub start_double : (n : ℕ) → 2 * start n ≡ n * (n - 1)
start_double zero = refl
start_double (suc n) = let e : suc n - 1 ≡ n = omega arith in double_next n ∙ ap (λ (k : ℕ). suc n * k) (sym e)

-- ---- the two poses of a node

pub upper_pair : (n x : ℕ) → x < start n → (start (upper n x) ≤ x) × (x < start (upper n x) + upper n x) × (upper n x < n)
upper_pair zero x h = let z : ⊥ = omega arith in absurd z
upper_pair (suc q) x h =
    cond_both (leb (start q) x) q (upper q x) (λ u. (start u ≤ x) × (x < start u + u) × (u < suc q))
    (λ e. (leb-true (start q) x e, h, omega arith))
    (λ e. let r = upper_pair q x (leb-false (start q) x e) in (r.0, r.1, omega (arith, r.2)))

-- the pairs of one greater pose end before those of the next begin, so a node has one greater pose
one_upper : (u q x : ℕ) → start u ≤ x → x < start u + u → start q ≤ x → x < start q + q → u ≡ q
one_upper u q x hu ku hq kq =
    elim (cases_order u q) [
      | inl e ↦ e
      | inr o ↦ elim o [
        | inl l ↦ let z : ⊥ = omega (arith, start_mono (suc u) q l) in absurd z
        | inr g ↦ let z : ⊥ = omega (arith, start_mono (suc q) u g) in absurd z
      ]
    ]

pub upper-pair_node : (p q n : ℕ) → p < q → q < n → upper n (pair_node p q) ≡ q
upper-pair_node p q n h k =
    let r = upper_pair n (pair_node p q) (pair_inside p q n h k) in
    one_upper (upper n (pair_node p q)) q (pair_node p q) r.0 r.1 (omega arith) (omega arith)

pub lower-pair_node : (p q n : ℕ) → p < q → q < n → lower n (pair_node p q) ≡ p
lower-pair_node p q n h k =
    ap (λ (u : ℕ). pair_node p q - start u) (upper-pair_node p q n h k) ∙ omega arith

-- ---- the grounds are sound

pub node_of-below : (n p q : ℕ) → p < n → q < n → node_of n p q < start n + 1
node_of-below n p q hp hq =
    cond_both (eqb p q) (start n) (cond (ltb p q) (pair_node p q) (pair_node q p)) (λ v. v < start n + 1) (λ _. omega arith)
    (λ e. cond_both (ltb p q) (pair_node p q) (pair_node q p) (λ v. v < start n + 1)
    (λ l. omega (arith, pair_inside p q n (ltb-true p q l) hq))
    (λ l. let lt : q < p = omega (arith, ltb-false p q l, eqb-false p q e) in omega (arith, pair_inside q p n lt hp)))

pub pair_sound : (m : Motion) → Valid m → Sound (pair_graph m)
pair_sound m v = record {
  some_node = omega arith;
  few_nodes = omega (arith, start_few m.poses v.few_poses);
  some_label = v.some_action;
  few_labels = v.few_actions;
  stays = λ x a hx ha. let n = m.poses in cond_both (ltb x (start n)) (node_of n (m.next (lower n x) a) (m.next (upper n x) a)) (start n) (λ y. y < start n + 1)
      (λ l. let u = upper_pair n x (ltb-true x (start n) l) in node_of-below n (m.next (lower n x) a) (m.next (upper n x) a) (v.stays (lower n x) a (omega (arith, u.0, u.1, u.2)) ha) (v.stays (upper n x) a u.2 ha))
      (λ _. omega arith);
}

pub pose_sound : (m : Motion) (q : ℕ) → Valid m → Sound (pose_graph m q)
pose_sound m q v = record {
  some_node = v.some_pose;
  few_nodes = omega (arith, v.few_poses);
  some_label = v.some_action;
  few_labels = v.few_actions;
  stays = v.stays;
}
