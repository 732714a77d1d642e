-- The pairs are those of numbers below the end of the set: the others give none.
use Rattle.std.proofs.Common.{◌≡◌, ℕ, zero, suc, ◌+◌, ◌-◌, ◌^◌, ◌<◌, ◌≤◌, Bool, true, false, cond, ◌&&◌, List, [], None, Option, refl, ap, ◌∙◌, lt_of_lt_of_le, pow_mono, arith}
use Rattle.std.specs.List.{filter_map, range_with_len, reduce, cons_option}
use Rattle.feeders.specs.Sets.{has}
use Rattle.feeders.proofs.Sets.{has_past}
use Rattle.planning.specs.declared.nearest.Pair.{Pair}
use Rattle.planning.specs.Nearest.{pair_of, row_of, nearest_of, first_of}

module _ (h : ℕ → Option Pair) where
  -- no number from a on gives a value
  nothing : (n a : ℕ) → ((k : ℕ) → a ≤ k → h k ≡ None) → filter_map h (range_with_len a n) ≡ []
  nothing zero a f = refl
  nothing (suc n) a f =
      ap (λ (o : Option Pair). cons_option o (filter_map h (range_with_len (a + 1) n))) (f a (omega arith))
      ∙ nothing n (a + 1) (λ k l. f k (omega (arith, l)))

  -- none from a + m on does
  shortened : (m n a : ℕ) → m ≤ n → ((k : ℕ) → a + m ≤ k → h k ≡ None) → filter_map h (range_with_len a n) ≡ filter_map h (range_with_len a m)
  shortened zero n a l f = nothing n a (λ k b. f k (omega (arith, b)))
  shortened (suc m) zero a l f = absurd (omega (arith, l))
  shortened (suc m) (suc n) a l f = ap (cons_option (h a)) (shortened m n (a + 1) (omega (arith, l)) (λ k b. f k (omega (arith, b))))

-- a pair with a pose that the set lacks
without : (a b : Bool) (o : Option Pair) → b ≡ false → cond (a && b) o None ≡ None
without true b o e = rw e refl
without false b o e = refl

module _ (table : List ℕ) (s : ℕ) where
  pub row_none : (p : ℕ) → has s p ≡ false → row_of table s p ≡ None
  row_none p e = ap (reduce first_of) (nothing (pair_of table s p) (32 - (p + 1)) (p + 1) (λ q l. rw e refl))

  -- no pose from `end` on is in the set
  module _ (end : ℕ) (above : s < 2 ^ end) (few : end ≤ 32) where
    past : (p : ℕ) → end ≤ p → has s p ≡ false
    past p l = has_past s p (lt_of_lt_of_le above (pow_mono l))

    pub nearest_below : nearest_of table s ≡ reduce first_of (filter_map (row_of table s) (range_with_len 0 end))
    nearest_below = ap (reduce first_of) (shortened (row_of table s) end 32 0 few (λ p l. row_none p (past p (omega (arith, l)))))

    pub row_below : (p : ℕ) → row_of table s p ≡ reduce first_of (filter_map (pair_of table s p) (range_with_len (p + 1) (end - (p + 1))))
    row_below p =
        ap (reduce first_of)
        (shortened (pair_of table s p) (end - (p + 1)) (32 - (p + 1)) (p + 1) (omega (arith, few)) (λ q l. without (has s p) (has s q) _ (past q (omega (arith, l)))))
