-- What `all` over the numbers below n decides.
use Rattle.std.proofs.Common.{◌≡◌, ℕ, ◌+◌, ◌<◌, Bool, true, false, T, ◌↔◌, length, get_or, subst, arith}
use Rattle.std.specs.Bool.{MatchBool}
use Rattle.std.specs.List.{range_with_len, AllWithin, HoldsAt}
use Rattle.std.proofs.lemmas.List.FromFn.{length-range_with_len, get_or-range_with_len}

at_range : (n a : ℕ) → a < n → get_or (range_with_len 0 n) a 0 ≡ a
at_range n a h = let e : get_or (range_with_len 0 n) a 0 ≡ 0 + a = get_or-range_with_len 0 n a 0 h in omega (arith, e)

pub decides_range : (Yes No : ℕ → Type 0) (n : ℕ) (r : Bool) → ((a : ℕ) → Yes a → No a → ⊥) → MatchBool r (AllWithin Yes (range_with_len 0 n) 0 (length (range_with_len 0 n))) ((k : ℕ) × (k < length (range_with_len 0 n)) × HoldsAt No (range_with_len 0 n) k) → T r ↔ ((a : ℕ) → a < n → Yes a)
decides_range Yes No n true apart cases = (
  λ _ a h. subst Yes (at_range n a h) (cases a 0 (omega arith) (omega (arith, h, length-range_with_len 0 n))),
  λ _. tt,
)
decides_range Yes No n false apart cases = (
  absurd,
  λ all.
      let h : cases.0 < n = omega (arith, cases.1, length-range_with_len 0 n) in
      apart cases.0 (all cases.0 h) (subst No (at_range n cases.0 h) (cases.2 0)),
)
