-- The pair rule orients with few actions, and where all poses can be oriented it never gets stuck.
use Rattle.std.proofs.Common.{◌≡◌, ℕ, suc, ◌+◌, ◌-◌, ◌*◌, ◌^◌, ◌<◌, ◌≤◌, T, ◌⊎◌, List, ◌++◌, length, sym, refl, subst, ap₂, lt_trans, lt_of_lt_of_le, mul-le-mul_right, suc-mul, ne_of_gt, arith, length-append}
use Rattle.feeders.specs.Motion.{Motion, Valid, brings}
use Rattle.feeders.specs.Sets.{has}
use Rattle.feeders.specs.Image.{image}
use Rattle.feeders.proofs.Sets.{has-below}
use Rattle.feeders.proofs.Images.{brings_stays, image-below, image-empty, image-append}
use Rattle.graphs.specs.Distance.{Way, AllUsable}
use Rattle.graphs.specs.Pairs.{start, pair_node, pair_graph}
use Rattle.graphs.specs.PairRule.{size_of, One, every, Nearest, PairRule, Stuck, Orients, PairLaws}
use Rattle.graphs.specs.PairRule.PairRule.{met, bring}
use Rattle.graphs.specs.PairRule.Stuck.{apart, after}
use Rattle.graphs.proofs.Distances.{all_usable_append, way_leads, way_length, way_unique}
use Rattle.graphs.proofs.Bounds.{distance_below}
use Rattle.graphs.proofs.Numbering.{pair_inside, pair_sound}
use Rattle.graphs.proofs.Meeting.{leads_meets, meets_leads}
use Rattle.graphs.proofs.Sizes.{size_some, size_two, two_in, one_in, image_shrinks, image_member, has-every, usable_below}

-- ---- numbers

tie : (p q d p₁ q₁ d₁ : ℕ) → (d < d₁) ⊎ ((d ≡ d₁) × ((p < p₁) ⊎ ((p ≡ p₁) × (q ≤ q₁)))) → (d₁ < d) ⊎ ((d₁ ≡ d) × ((p₁ < p) ⊎ ((p₁ ≡ p) × (q₁ ≤ q)))) → (p ≡ p₁) × (q ≡ q₁)
tie p q d p₁ q₁ d₁ h k = (omega arith, omega arith)

-- what one round adds is paid by the poses that it takes away
rounds : (a r b c d k : ℕ) → a ≡ d → d < k + 1 → r ≤ (b - 1) * k → 1 ≤ b → b < c → a + r ≤ (c - 1) * k
rounds a r b c d k e h l f g =
    let less : suc (b - 1) ≤ c - 1 = omega arith in
    omega (arith, suc-mul (b - 1) k, mul-le-mul_right k less)

-- ---- the nearest pair

pub nearest_unique : (m : Motion) (perm s p q d p₁ q₁ d₁ : ℕ) → Nearest m perm s p q d → Nearest m perm s p₁ q₁ d₁ → (p ≡ p₁) × (q ≡ q₁)
nearest_unique m perm s p q d p₁ q₁ d₁ x y =
    tie p q d p₁ q₁ d₁ (x.first p₁ q₁ d₁ y.ordered y.lesser y.greater y.away) (y.first p q d x.ordered x.lesser x.greater x.away)

module _ (m : Motion) (perm : ℕ) (ok : Valid m) where
  -- ---- a pair of a set and its way

  below_few : (s p : ℕ) → s < 2 ^ m.poses → T (has s p) → p < 32
  below_few s p h t = lt_of_lt_of_le (has-below m.poses s p h t) ok.few_poses

  nearest_two : (s p q d : ℕ) → s < 2 ^ m.poses → Nearest m perm s p q d → 2 ≤ size_of s
  nearest_two s p q d h x = size_two s p q x.ordered (below_few s q h x.greater) x.lesser x.greater

  way_usable : (p q : ℕ) (w : List ℕ) → Way (pair_graph m) perm (pair_node p q) w → AllUsable (pair_graph m) perm w
  way_usable p q w y = (way_leads (pair_graph m) perm (pair_node p q) w y).0

  way_below : (s p q : ℕ) (w : List ℕ) → Way (pair_graph m) perm (pair_node p q) w → image m s w < 2 ^ m.poses
  way_below s p q w y = image-below m ok s w (usable_below m perm w (way_usable p q w y))

  -- the way of the nearest pair brings its two poses together
  way_shrinks : (s p q d : ℕ) (w : List ℕ) → s < 2 ^ m.poses → Nearest m perm s p q d → Way (pair_graph m) perm (pair_node p q) w → size_of (image m s w) < size_of s
  way_shrinks s p q d w h x y =
      let hq = has-below m.poses s q h x.greater in
      image_shrinks m ok s w p q x.ordered hq x.lesser x.greater
      (leads_meets m ok perm p q w x.ordered hq (way_leads (pair_graph m) perm (pair_node p q) w y))

  way_some : (s p q d : ℕ) (w : List ℕ) → s < 2 ^ m.poses → Nearest m perm s p q d → Way (pair_graph m) perm (pair_node p q) w → 1 ≤ size_of (image m s w)
  way_some s p q d w h x y =
      let hq = has-below m.poses s q h x.greater in
      let here = brings_stays m ok q w hq (usable_below m perm w (way_usable p q w y)) in
      size_some (image m s w) (brings m q w) (lt_of_lt_of_le here ok.few_poses) (image_member m s w q hq x.greater)

  away_below : (s p q d : ℕ) → s < 2 ^ m.poses → Nearest m perm s p q d → d < start m.poses + 1
  away_below s p q d h x =
      distance_below (pair_graph m) perm (pair_node p q) d (pair_sound m ok)
      (omega (arith, pair_inside p q m.poses x.ordered (has-below m.poses s q h x.greater))) x.away

  -- the nearest pair of a set has one way
  same_way : (s p q d p₁ q₁ d₁ : ℕ) (w w₁ : List ℕ) → Nearest m perm s p q d → Nearest m perm s p₁ q₁ d₁ → Way (pair_graph m) perm (pair_node p q) w → Way (pair_graph m) perm (pair_node p₁ q₁) w₁ → w₁ ≡ w
  same_way s p q d p₁ q₁ d₁ w w₁ x x₁ y y₁ =
      let e = nearest_unique m perm s p q d p₁ q₁ d₁ x x₁ in
      let f = ap₂ pair_node e.0 e.1 in
      way_unique (pair_graph m) perm (pair_node p₁ q₁) w₁ w y₁ (subst (λ (k : ℕ). Way (pair_graph m) perm k w) f y)

  -- ---- the laws

  plan_one : (s : ℕ) (x y : List ℕ) → PairRule m perm s x → s < 2 ^ m.poses → PairRule m perm s y → x ≡ y
  plan_one s x y (met o) h (met o₁) = refl
  plan_one s x y (met o) h (bring {p = p} {q = q} {d = d} n₁ w₁ r₁) = absurd (ne_of_gt (nearest_two s p q d h n₁) o)
  plan_one s x y (bring {p = p} {q = q} {d = d} n w r) h (met o) = absurd (ne_of_gt (nearest_two s p q d h n) o)
  plan_one s x y (bring {p = p} {q = q} {d = d} {w = w} {rest = rest} n z r) h (bring {p = p₁} {q = q₁} {d = d₁} {w = w₁} {rest = rest₁} n₁ z₁ r₁) =
      let e : w₁ ≡ w = same_way s p q d p₁ q₁ d₁ w w₁ n n₁ z z₁ in
      ap₂ (λ (a b : List ℕ). a ++ b) (sym e) (plan_one (image m s w) rest rest₁ r (way_below s p q w z) (subst (λ (a : List ℕ). PairRule m perm (image m s a) rest₁) e r₁))

  plan_not_stuck : (s : ℕ) (x : List ℕ) → PairRule m perm s x → s < 2 ^ m.poses → Stuck m perm s → ⊥
  plan_not_stuck s x (met o) h (apart k none) = ne_of_gt k o
  plan_not_stuck s x (met o) h (after {p = p} {q = q} {d = d} n₁ z₁ t) = ne_of_gt (nearest_two s p q d h n₁) o
  plan_not_stuck s x (bring {p = p} {q = q} {d = d} n z r) h (apart k none) = none p q n.ordered n.lesser n.greater n.away.some.0 n.away.some.1
  plan_not_stuck s x (bring {p = p} {q = q} {d = d} {w = w} {rest = rest} n z r) h (after {p = p₁} {q = q₁} {d = d₁} {w = w₁} n₁ z₁ t) =
      let e : w₁ ≡ w = same_way s p q d p₁ q₁ d₁ w w₁ n n₁ z z₁ in
      plan_not_stuck (image m s w) rest r (way_below s p q w z) (subst (λ (a : List ℕ). Stuck m perm (image m s a)) e t)

  plan_orients : (s : ℕ) (x : List ℕ) → PairRule m perm s x → s < 2 ^ m.poses → Orients m perm s x
  plan_orients s x (met o) h = (tt, subst One (sym (image-empty m s h)) o)
  plan_orients s x (bring {p = p} {q = q} {d = d} {w = w} {rest = rest} n z r) h =
      let k = plan_orients (image m s w) rest r (way_below s p q w z) in
      let u = way_usable p q w z in
      (all_usable_append (pair_graph m) perm w rest u k.0, subst One (sym (image-append m ok s w rest (usable_below m perm w u))) k.1)

  plan_short : (s : ℕ) (x : List ℕ) → PairRule m perm s x → s < 2 ^ m.poses → length x ≤ (size_of s - 1) * start m.poses
  plan_short s x (met o) h = omega arith
  plan_short s x (bring {p = p} {q = q} {d = d} {w = w} {rest = rest} n z r) h =
      subst (λ (k : ℕ). k ≤ (size_of s - 1) * start m.poses) (sym (length-append w rest))
      (rounds (length w) (length rest) (size_of (image m s w)) (size_of s) d (start m.poses) (way_length (pair_graph m) perm (pair_node p q) d w z n.away) (away_below s p q d h n)
      (plan_short (image m s w) rest r (way_below s p q w z)) (way_some s p q d w h n z) (way_shrinks s p q d w h n z))

  -- a list that orients all poses brings every two together
  orients_meets : (w : List ℕ) → Orients m perm (every m) w → (p q : ℕ) → p < m.poses → q < m.poses → brings m p w ≡ brings m q w
  orients_meets w o p q hp hq =
      let t = usable_below m perm w o.0 in
      one_in (image m (every m) w) (brings m p w) (brings m q w) o.1
      (lt_of_lt_of_le (brings_stays m ok p w hp t) ok.few_poses) (lt_of_lt_of_le (brings_stays m ok q w hq t) ok.few_poses)
      (image_member m (every m) w p hp ((has-every m p).1 hp)) (image_member m (every m) w q hq ((has-every m q).1 hq))

  never_stuck : (w : List ℕ) → Orients m perm (every m) w → (s : ℕ) → Stuck m perm s → s < 2 ^ m.poses → ⊥
  never_stuck w o s (apart k none) h =
      let r = two_in s k in
      let hq = has-below m.poses s r.1 h r.5 in
      none r.0 r.1 r.2 r.4 r.5 w
      (meets_leads m ok perm r.0 r.1 w r.2 hq o.0 (orients_meets w o r.0 r.1 (lt_trans r.2 hq) hq))
  never_stuck w o s (after {p = p} {q = q} {w = w₁} n z t) h = never_stuck w o (image m s w₁) t (way_below s p q w₁ z)

  stuck_exact : (u : List ℕ) → AllUsable (pair_graph m) perm u → Stuck m perm (image m (every m) u) → (w : List ℕ) → Orients m perm (image m (every m) u) w → ⊥
  stuck_exact u a t w o =
      let b = usable_below m perm u a in
      never_stuck (u ++ w) (all_usable_append (pair_graph m) perm u w a o.0, subst One (sym (image-append m ok (every m) u w b)) o.1)
      (image m (every m) u) t (image-below m ok (every m) u b)

pub pair_laws : (m : Motion) (perm : ℕ) → Valid m → PairLaws m perm
pair_laws m perm ok = record {
  one_plan = λ s v w h x y. plan_one m perm ok s v w x h y;
  not_both = λ s w h x t. plan_not_stuck m perm ok s w x h t;
  orients = λ s w h x. plan_orients m perm ok s w x h;
  short = λ s w h x. plan_short m perm ok s w x h;
  complete = λ w o s h t. never_stuck m perm ok w o s t h;
  exact = stuck_exact m perm ok;
}
