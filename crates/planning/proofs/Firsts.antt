-- The first of the pairs that a function gives for numbers.
use Rattle.std.proofs.Common.{◌≡◌, ℕ, zero, suc, ◌+◌, ◌<◌, ◌≤◌, ◌⊎◌, [], Some, None, Option, sym, refl, ap, ◌∙◌, subst, inl, inr, arith}
use Rattle.std.specs.List.{fold, filter_map, range_with_len, reduce, cons_option}
use Rattle.std.specs.Ordering.{MatchOrdering, nat_cmp, ordering_then, min_by_ordering}
use Rattle.std.specs.declared.cmp.Ordering.{Ordering}
use Rattle.std.specs.declared.cmp.Ordering.TheVariants.{Less, Equal, Greater}
use Rattle.std.proofs.lemmas.Cmp.{ranked}
use Rattle.std.proofs.lemmas.Bool.{cases_eq}
use Rattle.std.proofs.lemmas.Option.{none-some, same_Some}
use Rattle.planning.specs.declared.nearest.Pair.{Pair}
use Rattle.planning.specs.Nearest.{first_of, nearer_of}

-- a is b, or it comes before b
abbrev pub Before : Pair → Pair → Type 0
Before a b = (a.away < b.away) ⊎ ((a.away ≡ b.away) × ((a.p < b.p) ⊎ ((a.p ≡ b.p) × (a.q ≤ b.q))))

pub before_both : (a b c : Pair) → Before a b → Before b c → Before a c
before_both a b c (inl x) (inl y) = inl (omega arith)
before_both a b c (inl x) (inr y) = inl (omega (arith, y.0))
before_both a b c (inr x) (inl y) = inl (omega (arith, x.0))
before_both a b c (inr x) (inr y) = inr (x.0 ∙ y.0, grind (arith, x.1, y.1))

before_same : (a : Pair) → Before a a
before_same a = inr (refl, inr (refl, omega arith))

module _ (a b : Pair) where
  picks : (o₁ o₂ o₃ : Ordering) → MatchOrdering o₁ (a.away < b.away) (a.away ≡ b.away) (b.away < a.away) → MatchOrdering o₂ (a.p < b.p) (a.p ≡ b.p) (b.p < a.p) → MatchOrdering o₃ (a.q < b.q) (a.q ≡ b.q) (b.q < a.q) → let c = min_by_ordering (ordering_then o₁ (ordering_then o₂ o₃)) a b in ((c ≡ a) ⊎ (c ≡ b)) × Before c a × Before c b
  picks Less o₂ o₃ x y z = (inl refl, before_same a, inl x)
  picks Equal Less o₃ x y z = (inl refl, before_same a, inr (x, inl y))
  picks Equal Equal Less x y z = (inl refl, before_same a, inr (x, inr (y, omega arith)))
  picks Equal Equal Equal x y z = (inl refl, before_same a, inr (x, inr (y, omega arith)))
  picks Equal Equal Greater x y z = (inr refl, inr (sym x, inr (sym y, omega arith)), before_same b)
  picks Equal Greater o₃ x y z = (inr refl, inr (sym x, inl y), before_same b)
  picks Greater o₂ o₃ x y z = (inr refl, inl x, before_same b)

  first_is : ((first_of a b ≡ a) ⊎ (first_of a b ≡ b)) × Before (first_of a b) a × Before (first_of a b) b
  first_is = picks (nat_cmp a.away b.away) (nat_cmp a.p b.p) (nat_cmp a.q b.q) (ranked a.away b.away _ refl) (ranked a.p b.p _ refl) (ranked a.q b.q _ refl)

-- m is what h gives for one of the n numbers from a on, and none of the others comes before it
pub record FirstOf (h : ℕ → Option Pair) (a n : ℕ) (m : Pair) : Type 0 where
  pub at : ℕ
  pub low : a ≤ at
  pub high : at < a + n
  pub is : h at ≡ Some m
  pub first : (k : ℕ) (x : Pair) → a ≤ k → k < a + n → h k ≡ Some x → Before m x

abbrev pub FirstFound : (ℕ → Option Pair) → ℕ → ℕ → Option Pair → Type 0
FirstFound h a n None = (k : ℕ) → a ≤ k → k < a + n → h k ≡ None
FirstFound h a n (Some m) = FirstOf h a n m

module _ (h : ℕ → Option Pair) where
  -- m comes first where m₀ is one of the values too
  record Beside (a n : ℕ) (m₀ m : Pair) : Type 0 where
    one : (m ≡ m₀) ⊎ ((k : ℕ) × (a ≤ k) × (k < a + n) × (h k ≡ Some m))
    before : Before m m₀
    first : (k : ℕ) (x : Pair) → a ≤ k → k < a + n → h k ≡ Some x → Before m x

  beside : (n a : ℕ) (m₀ : Pair) → Beside a n m₀ (fold first_of m₀ (filter_map h (range_with_len a n)))
  beside zero a m₀ = record { one = inl refl; before = before_same m₀; first = λ k x l m. absurd (omega arith) }
  beside (suc n) a m₀ = go (beside n (a + 1)) (h a) refl
    where
      go : ((m₁ : Pair) → Beside (a + 1) n m₁ (fold first_of m₁ (filter_map h (range_with_len (a + 1) n)))) → (o : Option Pair) → h a ≡ o → Beside a (suc n) m₀ (fold first_of m₀ (cons_option o (filter_map h (range_with_len (a + 1) n))))
      go ih None e =
          let r = ih m₀ in
          record {
            one = elim r.one [ inl f ↦ inl f | inr f ↦ inr (f.0, omega (arith, f.1), omega (arith, f.2), f.3) ];
            before = r.before;
            first = λ k x l m f. elim (cases_eq k a) [
              | inl q ↦ absurd (none-some x (sym e ∙ ap h (sym q) ∙ f))
              | inr q ↦ r.first k x (omega arith) (omega arith) f
            ];
          }
      go ih (Some y) e =
          let r = ih (first_of m₀ y) in
          let m₁ = first_of m₀ y in
          let m = fold first_of m₁ (filter_map h (range_with_len (a + 1) n)) in
          let f = first_is m₀ y in
          record {
            one = elim r.one [
              | inl q ↦ elim f.0 [ inl i ↦ inl (q ∙ i) | inr i ↦ inr (a, omega arith, omega arith, e ∙ ap Some (sym (q ∙ i))) ]
              | inr q ↦ inr (q.0, omega (arith, q.1), omega (arith, q.2), q.3)
            ];
            before = before_both m m₁ m₀ r.before f.1;
            first = λ k x l j i. elim (cases_eq k a) [
              | inl q ↦ subst (Before m) (same_Some y x (sym e ∙ ap h (sym q) ∙ i)) (before_both m m₁ y r.before f.2)
              | inr q ↦ r.first k x (omega arith) (omega arith) i
            ];
          }

  pub first_found : (n a : ℕ) → FirstFound h a n (reduce first_of (filter_map h (range_with_len a n)))
  first_found zero a = λ k l m. absurd (omega arith)
  first_found (suc n) a = go (first_found n (a + 1)) (h a) refl
    where
      later : (r : Option Pair) → h a ≡ None → FirstFound h (a + 1) n r → FirstFound h a (suc n) r
      later None e f = λ k l m. elim (cases_eq k a) [ inl q ↦ ap h q ∙ e | inr q ↦ f k (omega arith) (omega arith) ]
      later (Some m) e f = record {
        at = f.at;
        low = omega (arith, f.low);
        high = omega (arith, f.high);
        is = f.is;
        first = λ k x l j i. elim (cases_eq k a) [
          | inl q ↦ absurd (none-some x (sym e ∙ ap h (sym q) ∙ i))
          | inr q ↦ f.first k x (omega arith) (omega arith) i
        ];
      }

      go : FirstFound h (a + 1) n (reduce first_of (filter_map h (range_with_len (a + 1) n))) → (o : Option Pair) → h a ≡ o → FirstFound h a (suc n) (reduce first_of (cons_option o (filter_map h (range_with_len (a + 1) n))))
      go ih None e = later (reduce first_of (filter_map h (range_with_len (a + 1) n))) e ih
      go ih (Some y) e =
          let r = beside n (a + 1) y in
          let m = fold first_of y (filter_map h (range_with_len (a + 1) n)) in
          let first : (k : ℕ) (x : Pair) → a ≤ k → k < a + suc n → h k ≡ Some x → Before m x = λ k x l j i. elim (cases_eq k a) [
            | inl q ↦ subst (Before m) (same_Some y x (sym e ∙ ap h (sym q) ∙ i)) r.before
            | inr q ↦ r.first k x (omega arith) (omega arith) i
          ] in
          elim r.one [
            | inl q ↦ record { at = a; low = omega arith; high = omega arith; is = e ∙ ap Some (sym q); first = first }
            | inr q ↦ record { at = q.0; low = omega (arith, q.1); high = omega (arith, q.2); is = q.3; first = first }
          ]

  -- one number more, j
  folded : (n a j : ℕ) (m : Pair) → a + n ≡ j → Some (fold first_of m (filter_map h (range_with_len a (suc n)))) ≡ nearer_of (Some (fold first_of m (filter_map h (range_with_len a n)))) (h j)
  folded zero a j m e = subst (λ (k : ℕ). Some (fold first_of m (cons_option (h a) [])) ≡ nearer_of (Some m) (h k)) (omega (arith, e)) (go (h a))
    where
      go : (o : Option Pair) → Some (fold first_of m (cons_option o [])) ≡ nearer_of (Some m) o
      go None = refl
      go (Some y) = refl
  folded (suc n) a j m e = go (λ x. folded n (a + 1) j x (omega (arith, e))) (h a)
    where
      go : ((x : Pair) → Some (fold first_of x (filter_map h (range_with_len (a + 1) (suc n)))) ≡ nearer_of (Some (fold first_of x (filter_map h (range_with_len (a + 1) n)))) (h j)) → (o : Option Pair) → Some (fold first_of m (cons_option o (filter_map h (range_with_len (a + 1) (suc n))))) ≡ nearer_of (Some (fold first_of m (cons_option o (filter_map h (range_with_len (a + 1) n))))) (h j)
      go again None = again m
      go again (Some y) = again (first_of m y)

  reduced : (n a j : ℕ) → a + n ≡ j → reduce first_of (filter_map h (range_with_len a (suc n))) ≡ nearer_of (reduce first_of (filter_map h (range_with_len a n))) (h j)
  reduced zero a j e = subst (λ (k : ℕ). reduce first_of (cons_option (h a) []) ≡ h k) (omega (arith, e)) (go (h a))
    where
      go : (o : Option Pair) → reduce first_of (cons_option o []) ≡ o
      go None = refl
      go (Some y) = refl
  reduced (suc n) a j e = go (reduced n (a + 1) j (omega (arith, e))) (h a)
    where
      go : reduce first_of (filter_map h (range_with_len (a + 1) (suc n))) ≡ nearer_of (reduce first_of (filter_map h (range_with_len (a + 1) n))) (h j) → (o : Option Pair) → reduce first_of (cons_option o (filter_map h (range_with_len (a + 1) (suc n)))) ≡ nearer_of (reduce first_of (cons_option o (filter_map h (range_with_len (a + 1) n)))) (h j)
      go again None = again
      go again (Some y) = folded n (a + 1) j y (omega (arith, e))

  pub first_more : (n k a j : ℕ) → a + n ≡ j → k ≡ suc n → (best o : Option Pair) → best ≡ reduce first_of (filter_map h (range_with_len a n)) → o ≡ h j → nearer_of best o ≡ reduce first_of (filter_map h (range_with_len a k))
  first_more n k a j e more best o is next = let r = reduced n a j e in cc
