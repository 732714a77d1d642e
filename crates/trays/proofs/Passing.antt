-- What `(0..n).map_while(f).last()` finds, where the call of f at k answers by R of 1 + k.
use Rattle.std.proofs.Common.{◌≡◌, ℕ, ◌+◌, ◌-◌, ◌<◌, true, ◌⊎◌, None, Some, Option, MatchOption, IfSome, refl, sym, ◌∙◌, subst, inl, inr, arith}
use Rattle.std.proofs.iter.Yields.{nat_range_steps}
use Rattle.std.proofs.iter.runs.Sources.{range_runs}
use Rattle.std.proofs.lemmas.Option.{same_Some}
use Rattle.std.specs.Fn.{Called}
use Rattle.std.specs.Iterator.Runs.{Run, SomeRun, WholeRun, EachRunFrom, CallKeepsClosure, IsMapWhileRun, ItemsCountUp}
use Rattle.std.specs.Option.{IsSomeAnd, option_map}
use Rattle.std.specs.declared.ops.Range.{Range}
use denote.Param.Members.{Mut}

-- the first numbers pass, and the next does not, unless all did
pub record IsLastPassed {B : Type 0} (n : ℕ) (R : ℕ → Option B → Type 0) (last : Option B) : Type 0 where
  pub passed : ℕ
  pub each : (k : ℕ) → k < passed → (y : B) × R (1 + k) (Some y)
  pub final : MatchOption last (passed ≡ 0) (λ y. (0 < passed) × R passed (Some y))
  pub stops : (passed ≡ n) ⊎ R (1 + passed) None

some_of : {B : Type 0} (o : Option B) (P : B → Type 0) → IsSomeAnd o P → (y : B) × (o ≡ Some y) × P y
some_of None P h = absurd h
some_of (Some x) P h = (x, refl, h)

same_map : (o : Option ℕ) → option_map (λ y. y) o ≡ o
same_map None = refl
same_map (Some x) = refl

pub last_passed : {S F B : Type 0} {steps : S → Option B → S → Type 0} {g : Mut F (ℕ × Unit {0}) (Option B)} {f : F} {n : ℕ} (R : ℕ → Option B → Type 0) (range : Range ℕ) (m : S) (last : Option B)
    → range ≡ record { start = 0; end = n }
    → EachRunFrom steps m (λ p. SomeRun nat_range_steps range (λ q. IsMapWhileRun p q g f))
    → WholeRun steps m (λ p. MatchOption last (p.len ≡ 0) (λ x. (0 < p.len) × (p.at (p.len - 1) ≡ Some x)))
    → ((x : ℕ) (o : Option B) (f' : F) → Called g f (x, tt) o f' → (f' ≡ f) × R (x + 1) o)
    → IsLastPassed n R last
last_passed {steps = steps} {g = g} {f = f} {n = n} R range m last is runs whole closure = record {
  passed = p.len;
  each = λ k h. let y = some k h in (y.0, y.2);
  final = final last whole.3;
  stops = stops (q.at p.len) (maps.0.2 whole.2) (counts.2 p.len);
}
  where
    p : Run steps
    p = whole.0

    passed : SomeRun nat_range_steps range (λ q. IsMapWhileRun p q g f)
    passed = runs p p.seen whole.1

    q : Run nat_range_steps
    q = passed.0

    maps : IsMapWhileRun p q g f
    maps = passed.2

    counts : ItemsCountUp q 0 n
    counts = subst (λ (r : Range ℕ). ItemsCountUp q r.start r.end) (passed.1 ∙ is) (range_runs q q.seen)

    keeps : CallKeepsClosure g f
    keeps = λ a r f' k. (closure a.0 r f' k).0

    some : (k : ℕ) → k < p.len → (y : _) × (p.at k ≡ Some y) × R (1 + k) (Some y)
    some k h =
        let here : q.at k ≡ Some (0 + k) = sym (same_map (q.at k)) ∙ counts.3 k (omega (arith, maps.0.0)) in
        let called = subst (λ o. IfSome o (λ x. IsSomeAnd (p.at k) (λ y. Called g f (x, tt) (Some y) f))) here ((maps.1 keeps).1 k h) in
        let y = some_of (p.at k) _ called in
        let at : 0 + k + 1 ≡ 1 + k = omega arith in
        (y.0, y.1, subst (λ i. R i (Some y.0)) at (closure (0 + k) (Some y.0) f y.2).1)

    final : (o : Option _) → MatchOption o (p.len ≡ 0) (λ x. (0 < p.len) × (p.at (p.len - 1) ≡ Some x)) → MatchOption o (p.len ≡ 0) (λ y. (0 < p.len) × R p.len (Some y))
    final None h = h
    final (Some x) h =
        let y = some (p.len - 1) (omega arith) in
        let at : 1 + (p.len - 1) ≡ p.len = omega arith in
        (h.0, subst (λ k. R k (Some x)) at (subst (λ z. R (1 + (p.len - 1)) (Some z)) (sym (same_Some x y.0 (sym h.1 ∙ y.1))) y.2))

    stops : (o : Option ℕ) → MatchOption o ((q.whole ≡ true) × (q.len ≡ p.len)) (λ x. CallKeepsClosure g f → (f' : _) × Called g f (x, tt) None f') → IfSome o (λ x. (x ≡ 0 + p.len) × (x < n)) → (p.len ≡ n) ⊎ R (1 + p.len) None
    stops None h l = inl (omega (arith, h.1, counts.1 h.0))
    stops (Some x) h l =
        let none = h keeps in
        let at : x + 1 ≡ 1 + p.len = omega (arith, l.0) in
        inr (subst (λ k. R k None) at (closure x None none.0 none.1).1)
