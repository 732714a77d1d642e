-- The search for distances, one level after the other: what it starts from, what a sweep does, and why the last table passes.
use Rattle.std.proofs.Common.{◌≡◌, ℕ, zero, suc, ◌+◌, ◌<◌, ◌≤◌, Bool, true, false, T, List, [], ◌∷◌, length, get_or, set, Some, None, Option, cond, ltb, MatchOption, sym, refl, ◌∙◌, subst, inl, inr, arith}
use Rattle.std.proofs.lemmas.Bool.{cases_Bool, cases_eq, cases_lt, cond-true, cond-false, lt-ltb}
use Rattle.feeders.proofs.Sets.{T_of_true, true_of_T}
use Rattle.std.proofs.lemmas.List.{get_or_default, get_or-set_same, get_or-set_other}
use Rattle.graphs.specs.Graph.{Graph, Sound}
use Rattle.graphs.specs.Distance.{Usable, Leads, Distance}
use Rattle.graphs.specs.Certificate.{none, told, Passes}
use Rattle.graphs.proofs.Distances.{leads_cons, distance_unique, goal-distance, distance_zero, distance_next, distance_step}
use Rattle.graphs.proofs.Bounds.{distance_below}
use Rattle.grounds.specs.Level.{Level, Sweeping, Swept, LeadsTo, LabelFound, NextIf, first_entry}

-- ---- entries

-- what the code reads
pub told_read : (table : List ℕ) (v : ℕ) → v < length table → get_or table v 0 ≡ told table v
told_read table v l = get_or_default table v 0 none l

told-set_same : (table : List ℕ) (k x : ℕ) → k < length table → told (set table k x) k ≡ x
told-set_same table k x l = get_or-set_same table k x none l

told-set_other : (table : List ℕ) (k x v : ℕ) → (v ≡ k → ⊥) → told (set table k x) v ≡ told table v
told-set_other table k x v n = get_or-set_other table k v x none n

-- ---- what a look over the labels finds

pub label_found : (g : Graph) (s : ℕ) (table : List ℕ) (v e n : ℕ) (o : Option ℕ) → n ≡ g.labels → MatchOption o ((b : ℕ) → 0 ≤ b → b < n → LeadsTo g s table v e b → ⊥) (λ a. (0 ≤ a) × (a < n) × LeadsTo g s table v e a × ((b : ℕ) → 0 ≤ b → b < a → LeadsTo g s table v e b → ⊥)) → LabelFound g s table v e o
label_found g s table v e n None m f = λ b l. f b (omega arith) (omega (arith, l.0.0)) l
label_found g s table v e n (Some a) m f = (f.2, λ b l. elim (cases_lt b a) [ inl h ↦ absurd (f.3 b (omega arith) h l) | inr h ↦ h ])

-- ---- the goals

pub level_zero : (g : Graph) (s : ℕ) (table : List ℕ) → ((v : ℕ) → v < g.nodes → told table v ≡ first_entry g v) → Level g s 0 table
level_zero g s table at = record {
  known = λ v l some. elim (cases_Bool (g.goal v)) [
    | inl t ↦ let e = zero_at v l t in (omega arith, subst (Distance g s v) (sym e) (goal-distance g s v (T_of_true (g.goal v) t)))
    | inr f ↦ absurd (some (at v l ∙ inside v l ∙ cond-false (g.goal v) 0 none f))
  ];
  far = not_goal;
  reached = inl refl;
}
  where
    inside : (v : ℕ) → v < g.nodes → first_entry g v ≡ cond (g.goal v) 0 none
    inside v l = cond-true (ltb v g.nodes) (cond (g.goal v) 0 none) none (lt-ltb v g.nodes l)

    zero_at : (v : ℕ) → v < g.nodes → g.goal v ≡ true → told table v ≡ 0
    zero_at v l t = at v l ∙ inside v l ∙ cond-true (g.goal v) 0 none t

    not_goal : (v : ℕ) → v < g.nodes → told table v ≡ none → (w : List ℕ) → Leads g s v w → 0 < length w
    not_goal v l e [] p = let z : ⊥ = omega (arith, zero_at v l (true_of_T (g.goal v) p.1)) in absurd z
    not_goal v l e (a ∷ w) p = omega arith

-- ---- a level is below the number of nodes

pub level_below : (g : Graph) (s d : ℕ) (table : List ℕ) → Sound g → Level g s d table → d < g.nodes
level_below g s d table h p =
    elim p.reached [
      | inl e ↦ omega (arith, h.some_node)
      | inr r ↦ distance_below g s r.0 d h r.1 r.2
    ]

-- ---- a sweep

pub sweep_starts : (g : Graph) (s d : ℕ) (table : List ℕ) → Level g s d table → Sweeping g s d 0 false table
sweep_starts g s d table p = record {
  known = λ v l some. (omega (arith, (p.known v l some).0), (p.known v l some).1);
  far = p.far;
  passed = λ v l k. let z : ⊥ = omega arith in absurd z;
  given = λ t. absurd t;
  not_given = λ _ v l some. (p.known v l some).0;
}

-- no list as short as d + 1 leads from a node that has no entry, where no label leads to entry d
farther : (g : Graph) (s d k v : ℕ) (any : Bool) (table : List ℕ) → Sound g → ((b : ℕ) → LeadsTo g s table v d b → ⊥) → Sweeping g s d k any table → v < g.nodes → told table v ≡ none → (w : List ℕ) → Leads g s v w → suc d < length w
farther g s d k v any table h none-there p l e [] q = let z : ⊥ = omega (arith, p.far v l e [] q) in absurd z
farther g s d k v any table h none-there p l e (a ∷ w) q =
    let u : Usable g s a = q.0.0 in
    let rest : Leads g s (g.next v a) w = (q.0.1, q.1) in
    let below : g.next v a < g.nodes = h.stays v a l u.0 in
    elim (cases_eq (told table (g.next v a)) none) [
      | inl f ↦ omega (arith, p.far (g.next v a) below f w rest)
      | inr some ↦
          let r = (p.known (g.next v a) below some).1 in
          elim (cases_eq (told table (g.next v a)) d) [
            | inl f ↦ absurd (none-there a (u, f))
            | inr f ↦
                omega (arith, r.least w rest, r.some.2, p.far v l e (a ∷ r.some.0) (leads_cons g s v a r.some.0 u r.some.1))
          ]
    ]

-- a node that is not next is left as it is
pub sweep_skips : (g : Graph) (s d k : ℕ) (any : Bool) (table : List ℕ) → Sound g → NextIf g s table d k false → Sweeping g s d k any table → Sweeping g s d (k + 1) any table
sweep_skips g s d k any table h skipped p = record {
  known = p.known;
  far = p.far;
  passed = λ v l m e. elim (cases_eq v k) [
    | inl q ↦ farther g s d k v any table h (subst (λ (i : ℕ). NextIf g s table d i false) (sym q) skipped e) p l e
    | inr n ↦ p.passed v l (omega arith) e
  ];
  given = p.given;
  not_given = p.not_given;
}

-- a label to a node at distance d, from a node that no list as short as d leads from
one_more : (g : Graph) (s d k a : ℕ) (any : Bool) (table : List ℕ) → Sound g → k < g.nodes → told table k ≡ none → d < none → Usable g s a → told table (g.next k a) ≡ d → Sweeping g s d k any table → Distance g s k (suc d)
one_more g s d k a any table h l e small u f p =
    let r : Distance g s (g.next k a) d = subst (Distance g s (g.next k a)) f (p.known (g.next k a) (h.stays k a l u.0) (λ z. omega arith)).1 in
    record {
      some = (a ∷ r.some.0, leads_cons g s k a r.some.0 u r.some.1, omega (arith, r.some.2));
      least = λ w q. p.far k l e w q;
    }

pub sweep_gives : (g : Graph) (s d k : ℕ) (any : Bool) (table : List ℕ) → Sound g → d < none → k < g.nodes → k < length table → NextIf g s table d k true → Sweeping g s d k any table → Sweeping g s d (k + 1) true (set table k (suc d))
sweep_gives g s d k any table h small l in_table next p =
    let new : Distance g s k (suc d) = one_more g s d k next.1.0 any table h l next.0 small next.1.1.0 next.1.1.1 p in
    let same : told (set table k (suc d)) k ≡ suc d = told-set_same table k (suc d) in_table in
    let few : suc d < g.nodes = distance_below g s k (suc d) h l new in
    let tells : (v : ℕ) → (v ≡ k → ⊥) → told (set table k (suc d)) v ≡ told table v = told-set_other table k (suc d) in
    let not-here : (v : ℕ) → told (set table k (suc d)) v ≡ none → v ≡ k → ⊥ = λ v z q. omega (arith, subst (λ (i : ℕ). told (set table k (suc d)) i ≡ none) q z, h.few_nodes) in
    record {
      known = λ v m some. elim (cases_eq v k) [
        | inl q ↦
            let t : told (set table k (suc d)) v ≡ suc d = subst (λ (i : ℕ). told (set table k (suc d)) i ≡ suc d) (sym q) same in
            (omega arith, subst (Distance g s v) (sym t) (subst (λ (i : ℕ). Distance g s i (suc d)) (sym q) new))
        | inr n ↦
            let t = p.known v m (λ z. some (tells v n ∙ z)) in
            (subst (λ (i : ℕ). i ≤ suc d) (sym (tells v n)) t.0, subst (Distance g s v) (sym (tells v n)) t.1)
      ];
      far = λ v m z. p.far v m (sym (tells v (not-here v z)) ∙ z);
      passed = λ v m i z. let n = not-here v z in p.passed v m (omega arith) (sym (tells v n) ∙ z);
      given = λ _. (k, l, new);
      not_given = λ z. absurd (z tt);
    }

pub level_next : (g : Graph) (s d : ℕ) (table : List ℕ) → Sweeping g s d g.nodes true table → Level g s (suc d) table
level_next g s d table p = record {
  known = p.known;
  far = λ v l e. p.passed v l l e;
  reached = inr (p.given tt);
}

pub level_ends : (g : Graph) (s d : ℕ) (table : List ℕ) → Sound g → Sweeping g s d g.nodes false table → Passes g s table
level_ends g s d table h p = record {
  small = λ v l. elim (cases_eq (told table v) none) [
    | inl e ↦ omega arith
    | inr some ↦ omega (arith, distance_below g s v (told table v) h l (p.known v l some).1, h.few_nodes)
  ];
  goals = λ v l t. elim (cases_eq (told table v) none) [
    | inl e ↦ let z : ⊥ = omega (arith, p.far v l e [] (tt, t)) in absurd z
    | inr some ↦ distance_unique g s v (told table v) 0 (p.known v l some).1 (goal-distance g s v t)
  ];
  nearer = λ v l not_goal some. nearer v l not_goal some (told table v) refl;
  nearest = λ v l _ some b u to_some.
      let q = (p.known (g.next v b) (h.stays v b l u.0) to_some).1 in
      omega (arith, distance_next g s v b (told table v) (told table (g.next v b)) u (p.known v l some).1 q);
  unreached = λ v l e t. omega (arith, p.far v l e [] (tt, t));
  closed = λ v l e b u. elim (cases_eq (told table (g.next v b)) none) [
    | inl f ↦ f
    | inr some ↦
        let m = h.stays v b l u.0 in
        let r = (p.known (g.next v b) m some).1 in
        let z : ⊥ = omega (arith, r.some.2, p.not_given (λ t. t) (g.next v b) m some, p.passed v l l e (b ∷ r.some.0) (leads_cons g s v b r.some.0 u r.some.1)) in
        absurd z
  ];
}
  where
    nearer : (v : ℕ) → v < g.nodes → (T (g.goal v) → ⊥) → (told table v ≡ none → ⊥) → (e : ℕ) → told table v ≡ e → (a : ℕ) × Usable g s a × (told table (g.next v a) + 1 ≡ told table v)
    nearer v l not_goal some zero e = absurd (not_goal (distance_zero g s v (subst (Distance g s v) e (p.known v l some).1)))
    nearer v l not_goal some (suc e) q =
        let r = distance_step g s v e (subst (Distance g s v) q (p.known v l some).1) in
        let a = r.0 in
        let m = h.stays v a l r.1.0 in
        elim (cases_eq (told table (g.next v a)) none) [
          | inl f ↦
              let z : ⊥ = omega (arith, p.far (g.next v a) m f r.2.some.0 r.2.some.1, r.2.some.2, p.not_given (λ t. t) v l some) in absurd z
          | inr to_some ↦
              (a, r.1, omega (arith, distance_unique g s (g.next v a) (told table (g.next v a)) e (p.known (g.next v a) m to_some).1 r.2))
        ]

pub sweep_ends : (g : Graph) (s d : ℕ) (any : Bool) (table : List ℕ) → Sound g → Sweeping g s d g.nodes any table → Swept g s d any table
sweep_ends g s d true table h p = level_next g s d table p
sweep_ends g s d false table h p = level_ends g s d table h p
