-- A table of distances that passes the local test gives all distances, first labels and ways.
use Rattle.std.proofs.Common.{◌≡◌, ℕ, zero, suc, pred, ◌+◌, ◌<◌, ◌≤◌, Bool, true, false, cond, T, eqb, ltb, leb, ◌⊎◌, List, [], ◌∷◌, length, refl, ap, subst, inl, inr, arith, lit≤, le→leb, eqb→eq, ltb→lt, leb→le}
use lib.Dec.{eqb_refl}
use Rattle.std.proofs.lemmas.Bool.{cases_eq, cases_lt}
use Rattle.feeders.specs.Sets.{has}
use Rattle.feeders.proofs.Sets.{both, from_both}
use Rattle.graphs.specs.Graph.{Graph, Sound}
use Rattle.graphs.specs.Distance.{Usable, Leads, Distance, NoDistance, First, Way, there, onward}
use Rattle.graphs.specs.Certificate.{none, told, Passes, every_below, some_below, not_nearer, one_nearer, stays_out, passes_at, passes}
use Rattle.graphs.proofs.Distances.{distance_unique, distance_not-none, leads_cons}

-- ---- tests

pub decide_T : (b : Bool) → T b ⊎ (T b → ⊥)
decide_T true = inl tt
decide_T false = inr (λ z. z)

-- the arm that a test chose
T_arms : (b x y : Bool) → T (elim b [ true ↦ x | false ↦ y ]) → (T b → T x) × ((T b → ⊥) → T y)
T_arms true x y t = (λ _. t, λ n. absurd (n tt))
T_arms false x y t = (λ z. absurd z, λ _. t)

T_choice : (b x y : Bool) → (T b → T x) → ((T b → ⊥) → T y) → T (elim b [ true ↦ x | false ↦ y ])
T_choice true x y p q = p tt
T_choice false x y p q = q (λ z. z)

pub every_below_each : (n : ℕ) (test : ℕ → Bool) → T (every_below n test) → (k : ℕ) → k < n → T (test k)
every_below_each zero test t k h = let z : ⊥ = omega arith in absurd z
every_below_each (suc n) test t k h =
    let r = both (test n) (every_below n test) t in
    elim (cases_lt k n) [
      | inl l ↦ every_below_each n test r.1 k l
      | inr m ↦ let e : n ≡ k = omega arith in subst (λ (i : ℕ). T (test i)) e r.0
    ]

pub some_below_one : (n : ℕ) (test : ℕ → Bool) → T (some_below n test) → (k : ℕ) × (k < n) × T (test k)
some_below_one zero test t = absurd t
some_below_one (suc n) test t =
    elim (decide_T (test n)) [
      | inl y ↦ (n, omega arith, y)
      | inr m ↦ let r = some_below_one n test ((T_arms (test n) true (some_below n test) t).1 m) in (r.0, omega (arith, r.1), r.2)
    ]

pub every_below_from : (n : ℕ) (test : ℕ → Bool) → ((k : ℕ) → k < n → T (test k)) → T (every_below n test)
every_below_from zero test p = tt
every_below_from (suc n) test p = from_both (test n) _ (p n (omega arith)) (every_below_from n test (λ k l. p k (omega arith)))

pub some_below_from : (n : ℕ) (test : ℕ → Bool) (k : ℕ) → k < n → T (test k) → T (some_below n test)
some_below_from zero test k l t = let z : ⊥ = omega arith in absurd z
some_below_from (suc n) test k l t =
    T_choice (test n) true (some_below n test) (λ _. tt)
    (λ no. elim (cases_lt k n) [
      | inl m ↦ some_below_from n test k m t
      | inr m ↦ let e : k ≡ n = omega arith in absurd (no (subst (λ (i : ℕ). T (test i)) e t))
    ])

T-eqb : (x y : ℕ) → x ≡ y → T (eqb x y)
T-eqb x y e = subst (λ (z : ℕ). T (eqb x z)) e (eqb_refl x)

-- ---- what the computed test says

-- of one node
goal-told : (g : Graph) (s : ℕ) (table : List ℕ) (v : ℕ) → T (passes_at g s table v) → T (g.goal v) → told table v ≡ 0
goal-told g s table v t y = eqb→eq (told table v) 0 ((T_arms (g.goal v) _ _ t).0 y)

unreached_closed : (g : Graph) (s : ℕ) (table : List ℕ) (v : ℕ) → T (passes_at g s table v) → (T (g.goal v) → ⊥) → told table v ≡ none → (b : ℕ) → Usable g s b → told table (g.next v b) ≡ none
unreached_closed g s table v t n e b u =
    let same : T (eqb (told table v) none) = T-eqb (told table v) none e in
    let all = (T_arms (eqb (told table v) none) _ _ ((T_arms (g.goal v) _ _ t).1 n)).0 same in
    let here = every_below_each g.labels (stays_out g s table v) all b u.0 in
    eqb→eq (told table (g.next v b)) none ((T_arms (has s b) _ _ here).0 u.1)

reached_parts : (g : Graph) (s : ℕ) (table : List ℕ) (v : ℕ) → T (passes_at g s table v) → (T (g.goal v) → ⊥) → (told table v ≡ none → ⊥) → (told table v ≤ none) × T (some_below g.labels (one_nearer g s table v)) × T (every_below g.labels (not_nearer g s table v))
reached_parts g s table v t n m =
    let rest = (T_arms (eqb (told table v) none) _ _ ((T_arms (g.goal v) _ _ t).1 n)).1 (λ y. m (eqb→eq (told table v) none y)) in
    let p = both (leb (told table v) none) _ rest in
    let q = both (some_below g.labels (one_nearer g s table v)) _ p.1 in
    (leb→le (told table v) none p.0, q.0, q.1)

pub passes_sound : (g : Graph) (s : ℕ) (table : List ℕ) → T (passes g s table) → Passes g s table
passes_sound g s table t = record {
  small = λ v l. elim (decide_T (g.goal v)) [
    | inl y ↦ omega (arith, goal-told g s table v (at v l) y)
    | inr n ↦ elim (cases_eq (told table v) none) [ inl e ↦ omega arith | inr m ↦ (reached_parts g s table v (at v l) n m).0 ]
  ];
  goals = λ v l. goal-told g s table v (at v l);
  nearer = λ v l n m.
      let r = some_below_one g.labels (one_nearer g s table v) (reached_parts g s table v (at v l) n m).1 in
      let b = both (has s r.0) _ r.2 in
      (r.0, (r.1, b.0), eqb→eq (told table (g.next v r.0) + 1) (told table v) b.1);
  nearest = λ v l n m b u k.
      let here = every_below_each g.labels (not_nearer g s table v) (reached_parts g s table v (at v l) n m).2 b u.0 in
      leb→le (told table v) (told table (g.next v b) + 1) ((T_arms (has s b) _ _ here).0 u.1);
  unreached = λ v l e y. let z : ⊥ = omega (arith, goal-told g s table v (at v l) y) in z;
  closed = λ v l e b u. unreached_closed g s table v (at v l) (λ y. let z : ⊥ = omega (arith, goal-told g s table v (at v l) y) in z) e b u;
}
  where
    at : (v : ℕ) → v < g.nodes → T (passes_at g s table v)
    at v l = every_below_each g.nodes (passes_at g s table) t v l

-- the computed test refuses no table that agrees with itself
pub passes-complete : (g : Graph) (s : ℕ) (table : List ℕ) → Passes g s table → T (passes g s table)
passes-complete g s table p = every_below_from g.nodes (passes_at g s table) at
  where
    at : (v : ℕ) → v < g.nodes → T (passes_at g s table v)
    at v l =
        T_choice (g.goal v) _ _ (λ y. T-eqb (told table v) 0 (p.goals v l y))
        (λ n. T_choice (eqb (told table v) none) _ _
        (λ e. every_below_from g.labels (stays_out g s table v) (λ b k. T_choice (has s b) _ _
        (λ u. T-eqb (told table (g.next v b)) none (p.closed v l (eqb→eq (told table v) none e) b (k, u)))
        (λ _. tt)))
        (λ e.
        let f : told table v ≡ none → ⊥ = λ q. e (T-eqb (told table v) none q) in
        let r = p.nearer v l n f in
        from_both (leb (told table v) none) _ (le→leb (told table v) none (p.small v l))
        (from_both (some_below g.labels (one_nearer g s table v)) _
        (some_below_from g.labels (one_nearer g s table v) r.0 r.1.0
        (from_both (has s r.0) _ r.1.1 (T-eqb (told table (g.next v r.0) + 1) (told table v) r.2)))
        (every_below_from g.labels (not_nearer g s table v) (λ b k. T_choice (has s b) _ _
        (λ u. le→leb (told table v) (told table (g.next v b) + 1) (elim (cases_eq (told table (g.next v b)) none) [
          | inl q ↦ omega (arith, p.small v l)
          | inr m ↦ p.nearest v l n f b (k, u) m
        ]))
        (λ _. tt))))))

-- that no label leaves the nodes is computed too
pub stays_computed : (g : Graph) → T (every_below g.nodes (λ v. every_below g.labels (λ a. ltb (g.next v a) g.nodes))) → (v a : ℕ) → v < g.nodes → a < g.labels → g.next v a < g.nodes
stays_computed g t v a l k =
    ltb→lt (g.next v a) g.nodes
    (every_below_each g.labels (λ a. ltb (g.next v a) g.nodes) (every_below_each g.nodes (λ v. every_below g.labels (λ a. ltb (g.next v a) g.nodes)) t v l) a k)

-- ---- distances

-- no list that leads to a goal is shorter than the table says
pub passes_least : (g : Graph) (s : ℕ) (table : List ℕ) (v : ℕ) (w : List ℕ) → Sound g → Passes g s table → v < g.nodes → Leads g s v w → told table v ≤ length w
passes_least g s table v [] h p l m = omega (arith, p.goals v l m.1)
passes_least g s table v (a ∷ w) h p l m =
    let u : Usable g s a = m.0.0 in
    let next-below : g.next v a < g.nodes = h.stays v a l u.0 in
    let ih : told table (g.next v a) ≤ length w = passes_least g s table (g.next v a) w h p next-below (m.0.1, m.1) in
    elim (decide_T (g.goal v)) [
      | inl y ↦ omega (arith, p.goals v l y)
      | inr n ↦ elim (cases_eq (told table v) none) [
        | inl e ↦ omega (arith, p.closed v l e a u)
        | inr f ↦ elim (cases_eq (told table (g.next v a)) none) [
          | inl e ↦ omega (arith, p.small v l)
          | inr k ↦ omega (arith, p.nearest v l n f a u k)
        ]
      ]
    ]

-- a list as long as the table says leads to a goal: at each node a label that leads one nearer
pub passes_some : (g : Graph) (s : ℕ) (table : List ℕ) (d v : ℕ) → Sound g → Passes g s table → v < g.nodes → (told table v ≡ none → ⊥) → told table v ≡ d → (w : List ℕ) × Leads g s v w × (length w ≡ d)
passes_some g s table zero v h p l f e =
    elim (decide_T (g.goal v)) [
      | inl y ↦ ([], (tt, y), refl)
      | inr n ↦ let z : ⊥ = omega (arith, (p.nearer v l n f).2) in absurd z
    ]
passes_some g s table (suc d) v h p l f e =
    elim (decide_T (g.goal v)) [
      | inl y ↦ let z : ⊥ = omega (arith, p.goals v l y) in absurd z
      | inr n ↦
          let r = p.nearer v l n f in
          let a = r.0 in
          let one : told table (g.next v a) ≡ d = omega (arith, r.2) in
          let rest = passes_some g s table d (g.next v a) h p (h.stays v a l r.1.0) (λ k. omega (arith, p.small v l)) one in
          (a ∷ rest.0, leads_cons g s v a rest.0 r.1 rest.1, ap suc rest.2)
    ]

pub passes_distance : (g : Graph) (s : ℕ) (table : List ℕ) (v : ℕ) → Sound g → Passes g s table → v < g.nodes → (told table v ≡ none → ⊥) → Distance g s v (told table v)
passes_distance g s table v h p l f =
    record { some = passes_some g s table (told table v) v h p l f refl; least = λ w m. passes_least g s table v w h p l m }

pub passes_none : (g : Graph) (s : ℕ) (table : List ℕ) (v : ℕ) → Sound g → Passes g s table → v < g.nodes → told table v ≡ none → NoDistance g s v
passes_none g s table v h p l e [] m = p.unreached v l e m.1
passes_none g s table v h p l e (a ∷ w) m =
    passes_none g s table (g.next v a) h p (h.stays v a l m.0.0.0) (p.closed v l e a m.0.0) w (m.0.1, m.1)

-- the table says nothing else than the distance
pub told-Distance : (g : Graph) (s : ℕ) (table : List ℕ) (v d : ℕ) → Sound g → Passes g s table → v < g.nodes → Distance g s v d → told table v ≡ d
told-Distance g s table v d h p l q =
    elim (cases_eq (told table v) none) [
      | inl e ↦ absurd (distance_not-none g s v d q (passes_none g s table v h p l e))
      | inr f ↦ distance_unique g s v (told table v) d (passes_distance g s table v h p l f) q
    ]

pub none_told : (g : Graph) (s : ℕ) (table : List ℕ) (v : ℕ) → Sound g → Passes g s table → v < g.nodes → NoDistance g s v → told table v ≡ none
none_told g s table v h p l q =
    elim (cases_eq (told table v) none) [
      | inl e ↦ e
      | inr f ↦ absurd (distance_not-none g s v (told table v) (passes_distance g s table v h p l f) q)
    ]

-- ---- first labels

-- the lowest usable label to a node of entry d, from a node of entry d + 1
pub passes_first_at : (g : Graph) (s : ℕ) (table : List ℕ) (v d a : ℕ) → Sound g → Passes g s table → v < g.nodes → d < none → Usable g s a → told table (g.next v a) ≡ d → ((b : ℕ) → Usable g s b → told table (g.next v b) ≡ d → a ≤ b) → First g s v d a
passes_first_at g s table v d a h p l small u e lowest = record {
  usable = u;
  nearer = subst (Distance g s (g.next v a)) e (passes_distance g s table (g.next v a) h p (h.stays v a l u.0) (λ k. omega arith));
  lowest = λ b w q. lowest b w (told-Distance g s table (g.next v b) d h p (h.stays v b l w.0) q);
}

pub passes_first : (g : Graph) (s : ℕ) (table : List ℕ) (v a : ℕ) → Sound g → Passes g s table → v < g.nodes → (T (g.goal v) → ⊥) → (told table v ≡ none → ⊥) → Usable g s a → told table (g.next v a) + 1 ≡ told table v → ((b : ℕ) → Usable g s b → told table (g.next v b) + 1 ≡ told table v → a ≤ b) → First g s v (pred (told table v)) a
passes_first g s table v a h p l n f u e lowest =
    passes_first_at g s table v (pred (told table v)) a h p l (omega (arith, p.small v l)) u (omega arith)
    (λ b w q. lowest b w (omega arith))

-- where some number below n passes, one of them is the lowest
pub lowest_below : (n : ℕ) (test : ℕ → Bool) → ((a : ℕ) × (a < n) × T (test a) × ((b : ℕ) → T (test b) → a ≤ b)) ⊎ ((b : ℕ) → b < n → T (test b) → ⊥)
lowest_below zero test = inr (λ b l t. omega arith)
lowest_below (suc n) test =
    elim (lowest_below n test) [
      | inl r ↦ inl (r.0, omega (arith, r.1), r.2, r.3)
      | inr no_lower ↦ elim (decide_T (test n)) [
        | inl y ↦ inl (n, omega arith, y, λ b t. elim (cases_lt b n) [ inl l ↦ absurd (no_lower b l t) | inr k ↦ k ])
        | inr n-fails ↦ inr (λ b l t. elim (cases_lt b n) [
          | inl k ↦ no_lower b k t
          | inr k ↦ let e : b ≡ n = omega arith in n-fails (subst (λ (i : ℕ). T (test i)) e t)
        ])
      ]
    ]

-- label a from v is permitted and leads to entry d
leads_to-entry : Graph → ℕ → List ℕ → ℕ → ℕ → ℕ → Bool
leads_to-entry g s table v d a = elim (has s a) [ true ↦ eqb (told table (g.next v a)) d | false ↦ false ]

-- a node that is reached and no goal has a first label
pub passes-has_first : (g : Graph) (s : ℕ) (table : List ℕ) (v d : ℕ) → Sound g → Passes g s table → v < g.nodes → (told table v ≡ none → ⊥) → told table v ≡ suc d → (a : ℕ) × First g s v d a
unfolding leads_to-entry
passes-has_first g s table v d h p l f e = found (lowest_below g.labels (leads_to-entry g s table v d))
  where
    passing : (b : ℕ) → T (has s b) → told table (g.next v b) ≡ d → T (leads_to-entry g s table v d b)
    passing b u q = from_both (has s b) _ u (T-eqb (told table (g.next v b)) d q)

    found : ((a : ℕ) × (a < g.labels) × T (leads_to-entry g s table v d a) × ((b : ℕ) → T (leads_to-entry g s table v d b) → a ≤ b)) ⊎ ((b : ℕ) → b < g.labels → T (leads_to-entry g s table v d b) → ⊥) → (a : ℕ) × First g s v d a
    found (inl r) =
        let t = both (has s r.0) _ r.2 in
        (r.0, passes_first_at g s table v d r.0 h p l (omega (arith, p.small v l)) (r.1, t.0) (eqb→eq (told table (g.next v r.0)) d t.1) (λ b u q. r.3 b (passing b u.1 q)))
    found (inr m) =
        let r = p.nearer v l (λ y. omega (arith, p.goals v l y)) f in
        absurd (m r.0 r.1.0 (passing r.0 r.1.1 (omega (arith, r.2))))

-- ---- ways

pub passes_way : (g : Graph) (s : ℕ) (table : List ℕ) (d v : ℕ) → Sound g → Passes g s table → v < g.nodes → (told table v ≡ none → ⊥) → told table v ≡ d → (w : List ℕ) × Way g s v w
passes_way g s table zero v h p l f e =
    elim (decide_T (g.goal v)) [
      | inl y ↦ ([], there y)
      | inr n ↦ let z : ⊥ = omega (arith, (p.nearer v l n f).2) in absurd z
    ]
passes_way g s table (suc d) v h p l f e =
    let r = passes-has_first g s table v d h p l f e in
    let u = r.1.usable in
    let next-below : g.next v r.0 < g.nodes = h.stays v r.0 l u.0 in
    let one : told table (g.next v r.0) ≡ d = told-Distance g s table (g.next v r.0) d h p next-below r.1.nearer in
    let rest = passes_way g s table d (g.next v r.0) h p next-below (λ k. omega (arith, p.small v l)) one in
    (r.0 ∷ rest.0, onward (subst (Distance g s v) e (passes_distance g s table v h p l f)) r.1 rest.1)

-- ---- an example: 2 → 1 → 0 by label 0, with the goal 0, and an island 3

line : Graph
line = record { nodes = 4; labels = 2; next = λ v a. cond (eqb a 0) (cond (eqb v 3) 3 (pred v)) v; goal = λ v. eqb v 0 }

line_table : List ℕ
line_table = 0 ∷ 1 ∷ 2 ∷ none ∷ []

line_sound : Sound line
unfolding line
line_sound = record { some_node = lit≤ tt; few_nodes = lit≤ tt; some_label = lit≤ tt; few_labels = lit≤ tt; stays = stays_computed line tt }

line-passes : Passes line 3 line_table
unfolding line line_table
line-passes = passes_sound line 3 line_table tt

line_distance : Distance line 3 2 2
unfolding line line_table
line_distance = passes_distance line 3 line_table 2 line_sound line-passes (lit≤ tt) (λ e. omega arith)

line-none : NoDistance line 3 3
unfolding line line_table
line-none = passes_none line 3 line_table 3 line_sound line-passes (lit≤ tt) refl

-- one entry too great is refused
line_refused : passes line 3 (0 ∷ 2 ∷ 3 ∷ none ∷ []) ≡ false
unfolding line
line_refused = refl
