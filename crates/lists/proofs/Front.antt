-- What the front of an array holds after a write to it.
use Rattle.std.proofs.Common.{◌≡◌, ℕ, ◌+◌, ◌-◌, ◌<◌, ◌≤◌, zero, suc, List, [], ◌∷◌, ◌++◌, length, take, drop, set, refl, ap, sym, ◌∙◌, add-one, take_at, arith, rules}
use Rattle.std.specs.List.{copy_within, remove}
use Rattle.std.proofs.lemmas.List.{places, drop-take, take-take}

module _ {X : Type 0} where
  -- the item at i gives way to y, whether it is in front or not
  pub take-set : (n : ℕ) (xs : List X) (i : ℕ) (y : X) → take n (set xs i y) ≡ set (take n xs) i y
  take-set zero xs i y = refl
  take-set (suc n) [] i y = refl
  take-set (suc n) (x ∷ xs) zero y = refl
  take-set (suc n) (x ∷ xs) (suc i) y = ap (λ l. x ∷ l) (take-set n xs i y)

  -- the items behind i stand one place lower in ys
  pub take-shifted : (n : ℕ) (xs : List X) (i : ℕ) (ys : List X) → n ≤ length xs → i < n → ys ≡ copy_within xs (i + 1) n i → take (n - 1) ys ≡ remove (take n xs) i
  take-shifted n xs i ys le lt e =
      let moved = take (n - (i + 1)) (drop (i + 1) xs) in
      let short : length (take i xs ++ moved) ≡ n - 1 = search (rules, places) in
      let all : (i + 1) + (n - (i + 1)) ≡ n = omega arith in
      let back : drop (i + 1) (take n xs) ≡ moved = ap (λ m. drop (i + 1) (take m xs)) (sym all) ∙ drop-take (i + 1) (n - (i + 1)) xs in
      let front : take i (take n xs) ≡ take i xs = take-take i n xs (omega arith) in
      ap (take (n - 1)) e ∙ take_at (take i xs ++ moved) _ (n - 1) short ∙ cc (front, back, add-one i)
