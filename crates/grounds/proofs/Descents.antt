-- What `(a..b).rev().find(f)` passed over: f said no of each number above the one that it found.
use Rattle.std.proofs.Common.{◌≡◌, ◌+◌, ◌-◌, ◌<◌, ◌≤◌, ℕ, Bool, false, Option, Some, MatchOption, IfSome, IsTrue, Bor, sym, ◌∙◌, subst, arith}
use Rattle.std.proofs.lemmas.Iterator.Adapters.{option_map_id}
use Rattle.std.proofs.iter.runs.Sources.{nat_range_steps_back, range_runs_back}
use Rattle.std.specs.Fn.{CalledAt}
use Rattle.std.specs.Iterator.Adapters.{rev_steps}
use Rattle.std.specs.Iterator.Runs.{Run, SomeRun, EachRunFrom, CallKeepsClosure, NoItemPasses, EndsAtFirstPassing, IsIdenticalRun, ItemsCountDown}
use Rattle.std.specs.Option.{IsSomeAnd}
use Rattle.std.specs.declared.iter.Rev.{Rev}
use Rattle.std.specs.declared.ops.Range.{Range}
use denote.Param.Members.{Mut}

pub passed_over : {F : Type 0} {g : Mut F (Bor ℕ × Unit {0}) Bool} {f : F} (range : Range ℕ) (back : Rev (Range ℕ)) (found : Option ℕ) (u : ℕ) (No : ℕ → Type 0)
    → EachRunFrom (rev_steps nat_range_steps_back) back (λ p. SomeRun nat_range_steps_back range (λ q. IsIdenticalRun p q))
    → SomeRun (rev_steps nat_range_steps_back) back (λ p. MatchOption found (IsTrue p.whole × NoItemPasses p g f) (EndsAtFirstPassing p g f))
    → found ≡ Some u
    → CallKeepsClosure g f
    → ((x : ℕ) (h : F) → CalledAt g f x false h → No x)
    → (k : ℕ) → u < k → k < range.end → No k
passed_over {g = g} {f = f} range back found u No same run is keeps misses k above below =
    subst No back_to_k (misses (n - 1 - j) f (subst (λ o. IsSomeAnd o (λ x. CalledAt g f x false f)) at_j ((ends.3 keeps).1 j before)))
  where
    p : Run (rev_steps nat_range_steps_back)
    p = run.0

    ends : EndsAtFirstPassing p g f u
    ends = subst (λ o. MatchOption o (IsTrue p.whole × NoItemPasses p g f) (EndsAtFirstPassing p g f)) is run.2

    behind : SomeRun nat_range_steps_back range (λ q. IsIdenticalRun p q)
    behind = same p p.seen run.1

    q : Run nat_range_steps_back
    q = behind.0

    n : ℕ
    n = range.end

    counts : ItemsCountDown q range.start range.end
    counts = subst (λ (r : Range ℕ). ItemsCountDown q r.start r.end) behind.1 (range_runs_back q q.seen)

    last : u + ends.0 + 1 ≡ n
    last = (subst (λ o. IfSome o (λ x. (x + ends.0 + 1 ≡ n) × (range.start ≤ x))) (behind.2.0.2 ends.0 ∙ ends.2) (counts.2 ends.0)).0

    j : ℕ
    j = n - 1 - k

    before : j < ends.0
    before = omega (arith, last)

    back_to_k : n - 1 - j ≡ k
    back_to_k = omega arith

    at_j : p.at j ≡ Some (n - 1 - j)
    at_j = sym (behind.2.0.2 j) ∙ sym (option_map_id (q.at j)) ∙ counts.3 j (omega (arith, before, ends.1, behind.2.0.0))
