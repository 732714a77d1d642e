-- What every ground keeps of its walks, its distances, its first labels and its ways.
use Rattle.std.proofs.Common.{◌≡◌, ℕ, suc, ◌<◌, ◌≤◌, T, List, [], ◌∷◌, ◌++◌, length, sym, refl, ap, ◌∙◌, subst, arith}
use Rattle.graphs.specs.Graph.{Graph, Sound, walk}
use Rattle.graphs.specs.Distance.{Usable, AllUsable, Leads, Distance, NoDistance, First, Way, there, onward}

-- ---- walks

pub walk-append : (g : Graph) (v : ℕ) (x y : List ℕ) → walk g v (x ++ y) ≡ walk g (walk g v x) y
walk-append g v [] y = refl
walk-append g v (a ∷ x) y = walk-append g (g.next v a) x y

pub all_usable_append : (g : Graph) (s : ℕ) (x y : List ℕ) → AllUsable g s x → AllUsable g s y → AllUsable g s (x ++ y)
all_usable_append g s [] y p q = q
all_usable_append g s (a ∷ x) y p q = (p.0, all_usable_append g s x y p.1 q)

pub all_usable_parts : (g : Graph) (s : ℕ) (x y : List ℕ) → AllUsable g s (x ++ y) → AllUsable g s x × AllUsable g s y
all_usable_parts g s [] y p = (tt, p)
all_usable_parts g s (a ∷ x) y p = let r = all_usable_parts g s x y p.1 in ((p.0, r.0), r.1)

pub walk_stays : (g : Graph) (s v : ℕ) (w : List ℕ) → Sound g → v < g.nodes → AllUsable g s w → walk g v w < g.nodes
walk_stays g s v [] h l u = l
walk_stays g s v (a ∷ w) h l u = walk_stays g s (g.next v a) w h (h.stays v a l u.0.0) u.1

-- one label before a list that leads to a goal
pub leads_cons : (g : Graph) (s v a : ℕ) (w : List ℕ) → Usable g s a → Leads g s (g.next v a) w → Leads g s v (a ∷ w)
leads_cons g s v a w u l = ((u, l.0), l.1)

-- ---- distances

pub distance_unique : (g : Graph) (s v d e : ℕ) → Distance g s v d → Distance g s v e → d ≡ e
distance_unique g s v d e p q =
    omega (arith, p.least q.some.0 q.some.1, q.least p.some.0 p.some.1, p.some.2, q.some.2)

pub distance_not-none : (g : Graph) (s v d : ℕ) → Distance g s v d → NoDistance g s v → ⊥
distance_not-none g s v d p n = n p.some.0 p.some.1

pub goal-distance : (g : Graph) (s v : ℕ) → T (g.goal v) → Distance g s v 0
goal-distance g s v t = record { some = ([], (tt, t), refl); least = λ w l. omega arith }

pub distance_zero : (g : Graph) (s v : ℕ) → Distance g s v 0 → T (g.goal v)
distance_zero g s v p = empty p.some.0 p.some.1 p.some.2
  where
    empty : (w : List ℕ) → Leads g s v w → length w ≡ 0 → T (g.goal v)
    empty [] l e = l.1
    empty (a ∷ w) l e = let z : ⊥ = omega arith in absurd z

pub distance_next : (g : Graph) (s v a d e : ℕ) → Usable g s a → Distance g s v d → Distance g s (g.next v a) e → d ≤ suc e
distance_next g s v a d e u p q =
    let w = q.some.0 in omega (arith, p.least (a ∷ w) (leads_cons g s v a w u q.some.1), q.some.2)

-- what has no distance does not come, by a usable label, to what has one
pub none_next : (g : Graph) (s v a : ℕ) → Usable g s a → NoDistance g s v → NoDistance g s (g.next v a)
none_next g s v a u n w l = n (a ∷ w) (leads_cons g s v a w u l)

-- the tail of a shortest list is shortest for the next node
pub distance_step : (g : Graph) (s v d : ℕ) → Distance g s v (suc d) → (a : ℕ) × Usable g s a × Distance g s (g.next v a) d
distance_step g s v d p = split p.some.0 p.some.1 p.some.2
  where
    split : (w : List ℕ) → Leads g s v w → length w ≡ suc d → (a : ℕ) × Usable g s a × Distance g s (g.next v a) d
    split [] l e = let z : ⊥ = omega arith in absurd z
    split (a ∷ w) l e = (
      a,
      l.0.0,
      record {
        some = (w, (l.0.1, l.1), omega arith);
        least = λ x m. omega (arith, p.least (a ∷ x) (leads_cons g s v a x l.0.0 m));
      },
    )

-- ---- first labels

pub first_unique : (g : Graph) (s v d a b : ℕ) → First g s v d a → First g s v d b → a ≡ b
first_unique g s v d a b p q =
    omega (arith, p.lowest b q.usable q.nearer, q.lowest a p.usable p.nearer)

-- ---- ways

pub way_leads : (g : Graph) (s v : ℕ) (w : List ℕ) → Way g s v w → Leads g s v w
way_leads g s v w (there t) = (tt, t)
way_leads g s v w (onward {a = a} {w = x} p f r) = leads_cons g s v a x f.usable (way_leads g s (g.next v a) x r)

pub way_length : (g : Graph) (s v d : ℕ) (w : List ℕ) → Way g s v w → Distance g s v d → length w ≡ d
way_length g s v d w (there t) q = distance_unique g s v 0 d (goal-distance g s v t) q
way_length g s v d w (onward {d = e} {a = a} {w = x} p f r) q =
    ap suc (way_length g s (g.next v a) e x r f.nearer) ∙ distance_unique g s v (suc e) d p q

-- a way is a shortest list
pub way_distance : (g : Graph) (s v : ℕ) (w : List ℕ) → Way g s v w → Distance g s v (length w)
way_distance g s v w (there t) = goal-distance g s v t
way_distance g s v w (onward {d = e} {a = a} {w = x} p f r) =
    subst (Distance g s v) (sym (ap suc (way_length g s (g.next v a) e x r f.nearer))) p

pub way_unique : (g : Graph) (s v : ℕ) (w x : List ℕ) → Way g s v w → Way g s v x → w ≡ x
way_unique g s v w x (there t) (there u) = refl
way_unique g s v w x (there t) (onward {d = e} p f r) =
    let z : ⊥ = omega (arith, distance_unique g s v 0 (suc e) (goal-distance g s v t) p) in absurd z
way_unique g s v w x (onward {d = e} p f r) (there u) =
    let z : ⊥ = omega (arith, distance_unique g s v 0 (suc e) (goal-distance g s v u) p) in absurd z
way_unique g s v w x (onward {d = d} {a = a} {w = y} p f r) (onward {d = e} {a = b} {w = z} q h k) =
    let same-d : e ≡ d = omega (arith, distance_unique g s v (suc d) (suc e) p q) in
    let same-a : b ≡ a = first_unique g s v d b a (subst (λ (n : ℕ). First g s v n b) same-d h) f in
    let rest : y ≡ z = way_unique g s (g.next v a) y z r (subst (λ (n : ℕ). Way g s (g.next v n) z) same-a k) in
    cc
