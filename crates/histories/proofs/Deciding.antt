-- The rules decide: a call answers one thing and leaves one plan, so the calls determine the plan that is held.
use Rattle.std.proofs.Common.{◌≡◌, ℕ, ◌+◌, ◌^◌, ◌<◌, ◌≤◌, T, List, [], ◌∷◌, ◌++◌, length, Some, None, Ok, Err, sym, refl, ap, ◌∙◌, subst, not-le_of_lt, arith}
use Rattle.std.proofs.lemmas.Option.{none-some, same_Some}
use Rattle.refusals.specs.declared.Refusal.{Refusal}
use Rattle.feeders.specs.Motion.{Motion, Valid}
use Rattle.feeders.specs.Sets.{has}
use Rattle.feeders.specs.Image.{image}
use Rattle.feeders.proofs.Sets.{T-has_one}
use Rattle.graphs.specs.Distance.{NoDistance, Way}
use Rattle.graphs.specs.PairRule.{One}
use Rattle.graphs.specs.Poses.{pose_graph}
use Rattle.graphs.proofs.Distances.{distance_not-none, way_distance, way_unique}
use Rattle.graphs.proofs.PairRules.{pair_laws}
use Rattle.histories.specs.History.{possible, permitted, Permitted}
use Rattle.histories.specs.Rules.{Plans, Answer, without, Bad, absent, forbidden, later, Rule, Held, bar_no_action, bar_done, allow_no_action, allow_done, shake_done, step_no_action, step_barred, step_done, plan_stuck, plan_done, put_too_long, put_bad, put_apart, put_done, add_no_plan, add_no_action, add_barred, add_too_long, add_done, cut_no_plan, cut_no_place, cut_apart, cut_done, aim_no_plan, aim_no_pose, aim_never, aim_too_long, aim_done, start, call}
use Rattle.histories.specs.Promise.{Determined}
use Rattle.histories.specs.declared.call.Call.{Call}
use Rattle.histories.proofs.Words.{not_absent, permits-free, possible-below}

-- ---- what cannot be both

-- stated apart from the rules, so that `omega` sees numbers only
le_lt_same : {a b n : ℕ} → a ≤ n → n < b → a ≡ b → ⊥
le_lt_same h l e = omega arith

lt_le_same : {a b n : ℕ} → n ≤ a → b < n → a ≡ b → ⊥
lt_le_same h l e = omega arith

sum_le_lt : {a b c d n : ℕ} → n < a + b → c + d ≤ n → a ≡ c → b ≡ d → ⊥
sum_le_lt h l e f = omega arith

bit_one : (d e : ℕ) → 2 ^ d ≡ 2 ^ e → d ≡ e
bit_one d e p = (T-has_one e d).0 (subst (λ (x : ℕ). T (has x d)) p ((T-has_one d d).1 refl))

module _ (m : Motion) (h : List Call) where
  bad_permitted : {w : List ℕ} {e : Refusal} → Bad m h w e → Permitted m h w → ⊥
  bad_permitted (absent {a} g) p = not_absent m h a g p.0
  bad_permitted (forbidden {a} l b) p = permits-free m h a p.0 b
  bad_permitted (later t x) p = bad_permitted x p.1

  bad_one : {w : List ℕ} {e f : Refusal} → Bad m h w e → Bad m h w f → e ≡ f
  bad_one (absent g) (absent k) = refl
  bad_one (absent g) (forbidden l b) = absurd (not-le_of_lt l g)
  bad_one (absent {a} g) (later t x) = absurd (not_absent m h a g t)
  bad_one (forbidden l b) (absent g) = absurd (not-le_of_lt l g)
  bad_one (forbidden l b) (forbidden k c) = refl
  bad_one (forbidden {a} l b) (later t x) = absurd (permits-free m h a t b)
  bad_one (later {a} t x) (absent g) = absurd (not_absent m h a g t)
  bad_one (later {a} t x) (forbidden l b) = absurd (permits-free m h a t b)
  bad_one (later t x) (later u y) = bad_one x y

module _ (m : Motion) (h : List Call) (before : Plans) where
  -- one plan is held at most
  both : (z : before ≡ None) (w : List ℕ) → before ≡ Some w → ⊥
  both z w s = none-some w (sym z ∙ s)

  held_same : (v w : List ℕ) → before ≡ Some v → before ≡ Some w → v ≡ w
  held_same v w s t = same_Some v w (sym s ∙ t)

  -- it ends in one pose
  end_same : (d e : ℕ) (v w : List ℕ) → before ≡ Some v → before ≡ Some w → image m (possible m h) v ≡ 2 ^ d → image m (possible m h) w ≡ 2 ^ e → d ≡ e
  end_same d e v w s t i j = bit_one d e (sym i ∙ ap (image m (possible m h)) (held_same v w s t) ∙ j)

  no_way : (q d e : ℕ) (u : List ℕ) → d ≡ e → NoDistance (pose_graph m q) (permitted m h) d → Way (pose_graph m q) (permitted m h) e u → ⊥
  no_way q d e u p none way =
      distance_not-none (pose_graph m q) (permitted m h) e (length u) (way_distance (pose_graph m q) (permitted m h) e u way) (subst (λ (x : ℕ). NoDistance (pose_graph m q) (permitted m h) x) p none)

  same_way : (q d e : ℕ) (u x : List ℕ) → d ≡ e → Way (pose_graph m q) (permitted m h) d u → Way (pose_graph m q) (permitted m h) e x → u ≡ x
  same_way q d e u x p way other =
      way_unique (pose_graph m q) (permitted m h) e u x (subst (λ (y : ℕ). Way (pose_graph m q) (permitted m h) y u) p way) other

-- ---- one row for each call

module _ (m : Motion) (ok : Valid m) (h : List Call) (before : Plans) where
  pub rule_one : {c : Call} {x y : Plans} {r s : Answer} → Rule m h before c x r → Rule m h before c y s → (x ≡ y) × (r ≡ s)
  rule_one (bar_no_action g) (bar_no_action k) = (refl, refl)
  rule_one (bar_no_action g) (bar_done l) = absurd (not-le_of_lt l g)
  rule_one (bar_done l) (bar_no_action g) = absurd (not-le_of_lt l g)
  rule_one (bar_done l) (bar_done k) = (refl, refl)
  rule_one (allow_no_action g) (allow_no_action k) = (refl, refl)
  rule_one (allow_no_action g) (allow_done l) = absurd (not-le_of_lt l g)
  rule_one (allow_done l) (allow_no_action g) = absurd (not-le_of_lt l g)
  rule_one (allow_done l) (allow_done k) = (refl, refl)
  rule_one shake_done shake_done = (refl, refl)
  rule_one (step_no_action g) (step_no_action k) = (refl, refl)
  rule_one (step_no_action g) (step_barred l b) = absurd (not-le_of_lt l g)
  rule_one (step_no_action {a} g) (step_done t) = absurd (not_absent m h a g t)
  rule_one (step_barred l b) (step_no_action g) = absurd (not-le_of_lt l g)
  rule_one (step_barred l b) (step_barred k d) = (refl, refl)
  rule_one (step_barred {a} l b) (step_done t) = absurd (permits-free m h a t b)
  rule_one (step_done {a} t) (step_no_action g) = absurd (not_absent m h a g t)
  rule_one (step_done {a} t) (step_barred l b) = absurd (permits-free m h a t b)
  rule_one (step_done t) (step_done u) = (refl, refl)
  rule_one (plan_stuck s) (plan_stuck t) = (refl, refl)
  rule_one (plan_stuck s) (plan_done {w} p) = absurd ((pair_laws m (permitted m h) ok).not_both (possible m h) w (possible-below m ok h) p s)
  rule_one (plan_done {w} p) (plan_stuck s) = absurd ((pair_laws m (permitted m h) ok).not_both (possible m h) w (possible-below m ok h) p s)
  rule_one (plan_done {w} p) (plan_done {w = v} q) = let e = (pair_laws m (permitted m h) ok).one_plan (possible m h) w v (possible-below m ok h) p q in (ap Some e, ap (λ u. Ok (Some (length u))) e)
  rule_one (put_too_long k) (put_too_long l) = (refl, refl)
  rule_one (put_too_long k) (put_bad l y) = absurd (not-le_of_lt k l)
  rule_one (put_too_long k) (put_apart l q o) = absurd (not-le_of_lt k l)
  rule_one (put_too_long k) (put_done l u) = absurd (not-le_of_lt k l)
  rule_one (put_bad k x) (put_too_long l) = absurd (not-le_of_lt l k)
  rule_one (put_bad k x) (put_bad l y) = (refl, ap Err (bad_one m h x y))
  rule_one (put_bad k x) (put_apart l q o) = absurd (bad_permitted m h x q)
  rule_one (put_bad k x) (put_done l u) = absurd (bad_permitted m h x u.0)
  rule_one (put_apart k p n) (put_too_long l) = absurd (not-le_of_lt l k)
  rule_one (put_apart k p n) (put_bad l y) = absurd (bad_permitted m h y p)
  rule_one (put_apart k p n) (put_apart l q o) = (refl, refl)
  rule_one (put_apart k p n) (put_done l u) = absurd (n u.1)
  rule_one (put_done k o) (put_too_long l) = absurd (not-le_of_lt l k)
  rule_one (put_done k o) (put_bad l y) = absurd (bad_permitted m h y o.0)
  rule_one (put_done k o) (put_apart l q n) = absurd (n o.1)
  rule_one (put_done k o) (put_done l u) = (refl, refl)
  rule_one (add_no_plan z) (add_no_plan y) = (refl, refl)
  rule_one (add_no_plan z) (add_no_action {w = v} t k) = absurd (both m h before z v t)
  rule_one (add_no_plan z) (add_barred {w = v} t k d) = absurd (both m h before z v t)
  rule_one (add_no_plan z) (add_too_long {w = v} t q k) = absurd (both m h before z v t)
  rule_one (add_no_plan z) (add_done {w = v} t q k) = absurd (both m h before z v t)
  rule_one (add_no_action {a} {w} s g) (add_no_plan y) = absurd (both m h before y w s)
  rule_one (add_no_action {a} {w} s g) (add_no_action {w = v} t k) = (refl, refl)
  rule_one (add_no_action {a} {w} s g) (add_barred {w = v} t k d) = absurd (not-le_of_lt k g)
  rule_one (add_no_action {a} {w} s g) (add_too_long {w = v} t q k) = absurd (not_absent m h a g q)
  rule_one (add_no_action {a} {w} s g) (add_done {w = v} t q k) = absurd (not_absent m h a g q)
  rule_one (add_barred {a} {w} s l b) (add_no_plan y) = absurd (both m h before y w s)
  rule_one (add_barred {a} {w} s l b) (add_no_action {w = v} t k) = absurd (not-le_of_lt l k)
  rule_one (add_barred {a} {w} s l b) (add_barred {w = v} t k d) = (refl, refl)
  rule_one (add_barred {a} {w} s l b) (add_too_long {w = v} t q k) = absurd (permits-free m h a q b)
  rule_one (add_barred {a} {w} s l b) (add_done {w = v} t q k) = absurd (permits-free m h a q b)
  rule_one (add_too_long {a} {w} s p l) (add_no_plan y) = absurd (both m h before y w s)
  rule_one (add_too_long {a} {w} s p l) (add_no_action {w = v} t k) = absurd (not_absent m h a k p)
  rule_one (add_too_long {a} {w} s p l) (add_barred {w = v} t k d) = absurd (permits-free m h a p d)
  rule_one (add_too_long {a} {w} s p l) (add_too_long {w = v} t q k) = (refl, refl)
  rule_one (add_too_long {a} {w} s p l) (add_done {w = v} t q k) = absurd (lt_le_same l k (ap length (held_same m h before w v s t)))
  rule_one (add_done {a} {w} s p l) (add_no_plan y) = absurd (both m h before y w s)
  rule_one (add_done {a} {w} s p l) (add_no_action {w = v} t k) = absurd (not_absent m h a k p)
  rule_one (add_done {a} {w} s p l) (add_barred {w = v} t k d) = absurd (permits-free m h a p d)
  rule_one (add_done {a} {w} s p l) (add_too_long {w = v} t q k) = absurd (lt_le_same k l (sym (ap length (held_same m h before w v s t))))
  rule_one (add_done {a} {w} s p l) (add_done {w = v} t q k) = let e = held_same m h before w v s t in (ap (λ u. Some (u ++ (a ∷ []))) e, ap (λ u. Ok (Some (length (u ++ (a ∷ []))))) e)
  rule_one (cut_no_plan z) (cut_no_plan y) = (refl, refl)
  rule_one (cut_no_plan z) (cut_no_place {w = v} t k) = absurd (both m h before z v t)
  rule_one (cut_no_plan z) (cut_apart {w = v} t k g) = absurd (both m h before z v t)
  rule_one (cut_no_plan z) (cut_done {w = v} t k u) = absurd (both m h before z v t)
  rule_one (cut_no_place {n} {w} s l) (cut_no_plan y) = absurd (both m h before y w s)
  rule_one (cut_no_place {n} {w} s l) (cut_no_place {w = v} t k) = (refl, refl)
  rule_one (cut_no_place {n} {w} s l) (cut_apart {w = v} t k g) = absurd (le_lt_same l k (ap length (held_same m h before w v s t)))
  rule_one (cut_no_place {n} {w} s l) (cut_done {w = v} t k u) = absurd (le_lt_same l k (ap length (held_same m h before w v s t)))
  rule_one (cut_apart {n} {w} s l f) (cut_no_plan y) = absurd (both m h before y w s)
  rule_one (cut_apart {n} {w} s l f) (cut_no_place {w = v} t k) = absurd (le_lt_same k l (sym (ap length (held_same m h before w v s t))))
  rule_one (cut_apart {n} {w} s l f) (cut_apart {w = v} t k g) = (refl, refl)
  rule_one (cut_apart {n} {w} s l f) (cut_done {w = v} t k u) = absurd (f (subst (λ x. One (image m (possible m h) (without x n))) (sym (held_same m h before w v s t)) u))
  rule_one (cut_done {n} {w} s l o) (cut_no_plan y) = absurd (both m h before y w s)
  rule_one (cut_done {n} {w} s l o) (cut_no_place {w = v} t k) = absurd (le_lt_same k l (sym (ap length (held_same m h before w v s t))))
  rule_one (cut_done {n} {w} s l o) (cut_apart {w = v} t k g) = absurd (g (subst (λ x. One (image m (possible m h) (without x n))) (held_same m h before w v s t) o))
  rule_one (cut_done {n} {w} s l o) (cut_done {w = v} t k u) = let e = held_same m h before w v s t in (ap (λ u. Some (without u n)) e, ap (λ u. Ok (Some (length (without u n)))) e)
  rule_one (aim_no_plan z) (aim_no_plan y) = (refl, refl)
  rule_one (aim_no_plan z) (aim_no_pose {w = v} t y) = absurd (both m h before z v t)
  rule_one (aim_no_plan z) (aim_never e {w = v} t k j g) = absurd (both m h before z v t)
  rule_one (aim_no_plan z) (aim_too_long e {w = v} {u = x} t k j r g) = absurd (both m h before z v t)
  rule_one (aim_no_plan z) (aim_done e {w = v} {u = x} t k j r g) = absurd (both m h before z v t)
  rule_one (aim_no_pose {q} {w} s o) (aim_no_plan y) = absurd (both m h before y w s)
  rule_one (aim_no_pose {q} {w} s o) (aim_no_pose {w = v} t y) = (refl, refl)
  rule_one (aim_no_pose {q} {w} s o) (aim_never e {w = v} t k j g) = absurd (not-le_of_lt k o)
  rule_one (aim_no_pose {q} {w} s o) (aim_too_long e {w = v} {u = x} t k j r g) = absurd (not-le_of_lt k o)
  rule_one (aim_no_pose {q} {w} s o) (aim_done e {w = v} {u = x} t k j r g) = absurd (not-le_of_lt k o)
  rule_one (aim_never {q} d {w} s l i f) (aim_no_plan y) = absurd (both m h before y w s)
  rule_one (aim_never {q} d {w} s l i f) (aim_no_pose {w = v} t y) = absurd (not-le_of_lt l y)
  rule_one (aim_never {q} d {w} s l i f) (aim_never e {w = v} t k j g) = (refl, refl)
  rule_one (aim_never {q} d {w} s l i f) (aim_too_long e {w = v} {u = x} t k j r g) = absurd (no_way m h before q d e x (end_same m h before d e w v s t i j) f r)
  rule_one (aim_never {q} d {w} s l i f) (aim_done e {w = v} {u = x} t k j r g) = absurd (no_way m h before q d e x (end_same m h before d e w v s t i j) f r)
  rule_one (aim_too_long {q} d {w} {u} s l i p f) (aim_no_plan y) = absurd (both m h before y w s)
  rule_one (aim_too_long {q} d {w} {u} s l i p f) (aim_no_pose {w = v} t y) = absurd (not-le_of_lt l y)
  rule_one (aim_too_long {q} d {w} {u} s l i p f) (aim_never e {w = v} t k j g) = absurd (no_way m h before q e d u (sym (end_same m h before d e w v s t i j)) g p)
  rule_one (aim_too_long {q} d {w} {u} s l i p f) (aim_too_long e {w = v} {u = x} t k j r g) = (refl, refl)
  rule_one (aim_too_long {q} d {w} {u} s l i p f) (aim_done e {w = v} {u = x} t k j r g) = let a = held_same m h before w v s t in let b = same_way m h before q d e u x (end_same m h before d e w v s t i j) p r in absurd (sum_le_lt f g (ap length a) (ap length b))
  rule_one (aim_done {q} d {w} {u} s l i p f) (aim_no_plan y) = absurd (both m h before y w s)
  rule_one (aim_done {q} d {w} {u} s l i p f) (aim_no_pose {w = v} t y) = absurd (not-le_of_lt l y)
  rule_one (aim_done {q} d {w} {u} s l i p f) (aim_never e {w = v} t k j g) = absurd (no_way m h before q e d u (sym (end_same m h before d e w v s t i j)) g p)
  rule_one (aim_done {q} d {w} {u} s l i p f) (aim_too_long e {w = v} {u = x} t k j r g) = let a = held_same m h before w v s t in let b = same_way m h before q d e u x (end_same m h before d e w v s t i j) p r in absurd (sum_le_lt g f (sym (ap length a)) (sym (ap length b)))
  rule_one (aim_done {q} d {w} {u} s l i p f) (aim_done e {w = v} {u = x} t k j r g) = let a = held_same m h before w v s t in let b = same_way m h before q d e u x (end_same m h before d e w v s t i j) p r in let j : w ++ u ≡ v ++ x = cc in (ap Some j, ap (λ y. Ok (Some (length y))) j)

pub held_one : (m : Motion) → Valid m → {h : List Call} {x y : Plans} → Held m h x → Held m h y → x ≡ y
held_one m ok start start = refl
held_one m ok (call {h} {before} {c = c} a p) (call {before = other} {after = y} {r = s} b q) =
    let e = held_one m ok a b in (rule_one m ok h before p (subst (λ z. Rule m h z c y s) (sym e) q)).0

pub determined : Determined
determined = record {
  one_answer = λ m ok h c before x y r s p q. rule_one m ok h before p q;
  one_plan = λ m ok h x y p q. held_one m ok p q;
}
