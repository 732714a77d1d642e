-- A distance is below the number of nodes.
use Rattle.std.proofs.Common.{◌≡◌, ℕ, zero, suc, ◌<◌, ◌≤◌, min, cond, eqb, sym, ◌∙◌, subst, inl, inr, arith}
use Rattle.std.proofs.lemmas.Bool.{cases_eq, cases_lt, eqb-true, eqb-false, cond_both}
use Rattle.graphs.specs.Graph.{Graph, Sound}
use Rattle.graphs.specs.Distance.{Distance}
use Rattle.graphs.proofs.Distances.{distance_unique, distance_step}

-- ---- pigeons

-- so many numbers below n, all different, are n at most; the one that is n - 1 is replaced by the last
pub apart_below : (n m : ℕ) (f : ℕ → ℕ) → ((i : ℕ) → i < m → f i < n) → ((i j : ℕ) → i < m → j < m → f i ≡ f j → i ≡ j) → m ≤ n
apart_below n zero f low apart = omega arith
apart_below zero (suc m) f low apart = let z : ⊥ = omega (arith, low 0 (omega arith)) in absurd z
apart_below (suc n) (suc m) f low apart = let r = apart_below n m (moved n m f) (moved_low n m f low apart) (moved_apart n m f low apart) in omega arith
  where
    moved : (n m : ℕ) (f : ℕ → ℕ) → ℕ → ℕ
    moved n m f i = cond (eqb (f i) n) (f m) (f i)

    moved_low : (n m : ℕ) (f : ℕ → ℕ) → ((i : ℕ) → i < suc m → f i < suc n) → ((i j : ℕ) → i < suc m → j < suc m → f i ≡ f j → i ≡ j) → (i : ℕ) → i < m → moved n m f i < n
    moved_low n m f low apart i h =
        cond_both (eqb (f i) n) (f m) (f i) (λ x. x < n)
        (λ e. elim (cases_lt (f m) n) [
          | inl l ↦ l
          | inr k ↦ let z : i ≡ m = apart i m (omega arith) (omega arith) (omega (arith, eqb-true (f i) n e, low m (omega arith))) in omega arith
        ])
        (λ e. let ne : f i ≡ n → ⊥ = eqb-false (f i) n e in omega (arith, low i (omega arith)))

    moved_apart : (n m : ℕ) (f : ℕ → ℕ) → ((i : ℕ) → i < suc m → f i < suc n) → ((i j : ℕ) → i < suc m → j < suc m → f i ≡ f j → i ≡ j) → (i j : ℕ) → i < m → j < m → moved n m f i ≡ moved n m f j → i ≡ j
    moved_apart n m f low apart i j h k =
        cond_both (eqb (f i) n) (f m) (f i) (λ x. x ≡ moved n m f j → i ≡ j)
        (λ d. cond_both (eqb (f j) n) (f m) (f j) (λ y. f m ≡ y → i ≡ j)
        (λ e q. apart i j (omega arith) (omega arith) (eqb-true (f i) n d ∙ sym (eqb-true (f j) n e)))
        (λ e q. let z : m ≡ j = apart m j (omega arith) (omega arith) q in omega arith))
        (λ d. cond_both (eqb (f j) n) (f m) (f j) (λ y. f i ≡ y → i ≡ j)
        (λ e q. let z : i ≡ m = apart i m (omega arith) (omega arith) q in omega arith)
        (λ e q. apart i j (omega arith) (omega arith) q))

-- ---- distances

-- on a shortest list there is a node at every lesser distance
pub distance_down : (g : Graph) (s d v : ℕ) → Sound g → v < g.nodes → Distance g s v d → (i : ℕ) → i ≤ d → (u : ℕ) × (u < g.nodes) × Distance g s u i
distance_down g s zero v h l p i k = let e : 0 ≡ i = omega arith in (v, l, subst (Distance g s v) e p)
distance_down g s (suc d) v h l p i k =
    let step = distance_step g s v d p in
    elim (cases_eq i (suc d)) [
      | inl e ↦ (v, l, subst (Distance g s v) (sym e) p)
      | inr n ↦ distance_down g s d (g.next v step.0) h (h.stays v step.0 l step.1.0) step.2 i (omega arith)
    ]

pub distance_below : (g : Graph) (s v d : ℕ) → Sound g → v < g.nodes → Distance g s v d → d < g.nodes
distance_below g s v d h l p = apart_below g.nodes (suc d) node (λ i k. (down i).1) apart
  where
    down : (i : ℕ) → (u : ℕ) × (u < g.nodes) × Distance g s u (min i d)
    down i = distance_down g s d v h l p (min i d) (omega arith)

    node : ℕ → ℕ
    node i = (down i).0

    apart : (i j : ℕ) → i < suc d → j < suc d → node i ≡ node j → i ≡ j
    apart i j a b e =
        omega (arith, distance_unique g s (node j) (min i d) (min j d) (subst (λ (u : ℕ). Distance g s u (min i d)) e (down i).2) (down j).2)
