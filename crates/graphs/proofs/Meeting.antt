-- Walks on the pair ground are moves of the two poses, and they reach the goal exactly where the poses meet.
use Rattle.std.proofs.Common.{◌≡◌, ℕ, ◌<◌, cond, eqb, ltb, ◌↔◌, List, [], ◌∷◌, sym, refl, ap, ◌∙◌, ap₂, inl, inr, arith, eqb→eq}
use Rattle.std.proofs.lemmas.Bool.{cases_order, cond-true, cond-false, lt-ltb, le-ltb, eq-eqb, ne_eqb}
use Rattle.feeders.specs.Motion.{Motion, Valid, brings}
use Rattle.feeders.proofs.Sets.{T_of_true}
use Rattle.graphs.specs.Graph.{walk}
use Rattle.graphs.specs.Distance.{AllUsable, Leads}
use Rattle.graphs.specs.Pairs.{start, pair_node, upper, lower, node_of, pair_next, pair_graph}
use Rattle.graphs.proofs.Numbering.{pair_inside, upper-pair_node, lower-pair_node}

-- ---- the node of two poses

pub node_of_same : (n p q : ℕ) → p ≡ q → node_of n p q ≡ start n
node_of_same n p q e = cond-true (eqb p q) (start n) (cond (ltb p q) (pair_node p q) (pair_node q p)) (eq-eqb p q e)

pub node_of-less : (n p q : ℕ) → p < q → node_of n p q ≡ pair_node p q
node_of-less n p q l =
    cond-false (eqb p q) (start n) (cond (ltb p q) (pair_node p q) (pair_node q p)) (ne_eqb p q (λ e. omega arith))
    ∙ cond-true (ltb p q) (pair_node p q) (pair_node q p) (lt-ltb p q l)

pub node_of_more : (n p q : ℕ) → q < p → node_of n p q ≡ pair_node q p
node_of_more n p q l =
    cond-false (eqb p q) (start n) (cond (ltb p q) (pair_node p q) (pair_node q p)) (ne_eqb p q (λ e. omega arith))
    ∙ cond-false (ltb p q) (pair_node p q) (pair_node q p) (le-ltb p q (omega arith))

pub node_of_swap : (n p q : ℕ) → node_of n p q ≡ node_of n q p
node_of_swap n p q =
    elim (cases_order p q) [
      | inl e ↦ node_of_same n p q e ∙ sym (node_of_same n q p (sym e))
      | inr o ↦ elim o [
        | inl l ↦ node_of-less n p q l ∙ sym (node_of_more n q p l)
        | inr g ↦ node_of_more n p q g ∙ sym (node_of-less n q p g)
      ]
    ]

-- only two poses that have met are at the last node
pub node_of_met : (n p q : ℕ) → p < n → q < n → (node_of n p q ≡ start n) ↔ (p ≡ q)
node_of_met n p q hp hq = (met, node_of_same n p q)
  where
    met : node_of n p q ≡ start n → p ≡ q
    met h = elim (cases_order p q) [
      | inl e ↦ e
      | inr o ↦ elim o [
        | inl l ↦ let z : ⊥ = omega (arith, pair_inside p q n l hq, sym (node_of-less n p q l) ∙ h) in absurd z
        | inr g ↦ let z : ⊥ = omega (arith, pair_inside q p n g hp, sym (node_of_more n p q g) ∙ h) in absurd z
      ]
    ]

-- ---- one action

next_met : (m : Motion) (a : ℕ) → pair_next m (start m.poses) a ≡ start m.poses
next_met m a =
    let n = m.poses in
    cond-false (ltb (start n) (start n)) (node_of n (m.next (lower n (start n)) a) (m.next (upper n (start n)) a)) (start n)
    (le-ltb (start n) (start n) (omega arith))

next_pair : (m : Motion) (p q a : ℕ) → p < q → q < m.poses → pair_next m (pair_node p q) a ≡ node_of m.poses (m.next p a) (m.next q a)
next_pair m p q a h k =
    let n = m.poses in
    let v = pair_node p q in
    cond-true (ltb v (start n)) (node_of n (m.next (lower n v) a) (m.next (upper n v) a)) (start n) (lt-ltb v (start n) (pair_inside p q n h k))
    ∙ ap₂ (λ (x y : ℕ). node_of n (m.next x a) (m.next y a)) (lower-pair_node p q n h k) (upper-pair_node p q n h k)

pub next_node_of : (m : Motion) (p q a : ℕ) → p < m.poses → q < m.poses → pair_next m (node_of m.poses p q) a ≡ node_of m.poses (m.next p a) (m.next q a)
next_node_of m p q a hp hq =
    let n = m.poses in
    elim (cases_order p q) [
      | inl e ↦ ap (λ (x : ℕ). pair_next m x a) (node_of_same n p q e) ∙ next_met m a ∙ sym (node_of_same n (m.next p a) (m.next q a) (ap (λ (x : ℕ). m.next x a) e))
      | inr o ↦ elim o [
        | inl l ↦ ap (λ (x : ℕ). pair_next m x a) (node_of-less n p q l) ∙ next_pair m p q a l hq
        | inr g ↦ ap (λ (x : ℕ). pair_next m x a) (node_of_more n p q g) ∙ next_pair m q p a g hp ∙ node_of_swap n (m.next q a) (m.next p a)
      ]
    ]

-- ---- lists of actions

pub walk-node_of : (m : Motion) → Valid m → (perm p q : ℕ) (w : List ℕ) → p < m.poses → q < m.poses → AllUsable (pair_graph m) perm w → walk (pair_graph m) (node_of m.poses p q) w ≡ node_of m.poses (brings m p w) (brings m q w)
walk-node_of m v perm p q [] hp hq u = refl
walk-node_of m v perm p q (a ∷ w) hp hq u =
    ap (λ (x : ℕ). walk (pair_graph m) x w) (next_node_of m p q a hp hq)
    ∙ walk-node_of m v perm (m.next p a) (m.next q a) w (v.stays p a hp u.0.0) (v.stays q a hq u.0.0) u.1

brings_in : (m : Motion) → Valid m → (perm p : ℕ) (w : List ℕ) → p < m.poses → AllUsable (pair_graph m) perm w → brings m p w < m.poses
brings_in m v perm p [] hp u = hp
brings_in m v perm p (a ∷ w) hp u = brings_in m v perm (m.next p a) w (v.stays p a hp u.0.0) u.1

pub walk-pair_node : (m : Motion) → Valid m → (perm p q : ℕ) (w : List ℕ) → p < q → q < m.poses → AllUsable (pair_graph m) perm w → walk (pair_graph m) (pair_node p q) w ≡ node_of m.poses (brings m p w) (brings m q w)
walk-pair_node m v perm p q w l hq u =
    ap (λ (x : ℕ). walk (pair_graph m) x w) (sym (node_of-less m.poses p q l)) ∙ walk-node_of m v perm p q w (omega arith) hq u

-- a list that leads to the goal brings the two poses together
pub leads_meets : (m : Motion) → Valid m → (perm p q : ℕ) (w : List ℕ) → p < q → q < m.poses → Leads (pair_graph m) perm (pair_node p q) w → brings m p w ≡ brings m q w
leads_meets m v perm p q w l hq h =
    (node_of_met m.poses (brings m p w) (brings m q w) (brings_in m v perm p w (omega arith) h.0) (brings_in m v perm q w hq h.0)).0
    (sym (walk-pair_node m v perm p q w l hq h.0) ∙ eqb→eq (walk (pair_graph m) (pair_node p q) w) (start m.poses) h.1)

-- and conversely
pub meets_leads : (m : Motion) → Valid m → (perm p q : ℕ) (w : List ℕ) → p < q → q < m.poses → AllUsable (pair_graph m) perm w → brings m p w ≡ brings m q w → Leads (pair_graph m) perm (pair_node p q) w
meets_leads m v perm p q w l hq u e =
    (u, T_of_true (eqb (walk (pair_graph m) (pair_node p q) w) (start m.poses)) (eq-eqb (walk (pair_graph m) (pair_node p q) w) (start m.poses) (walk-pair_node m v perm p q w l hq u ∙ node_of_same m.poses (brings m p w) (brings m q w) e)))
