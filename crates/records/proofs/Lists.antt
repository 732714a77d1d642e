-- The actions of a record: what list_at comes to after those at the front.
use Rattle.std.proofs.Common.{◌≡◌, ℕ, ◌+◌, ◌<◌, ◌≤◌, T, min, ltb, List, [], ◌∷◌, ◌++◌, length, get_or, take, drop, Ok, Err, Result, sym, refl, ap, subst, inl, inr, ◌∙◌, arith, length-append, length-take, length-drop}
use Rattle.std.proofs.lemmas.Bool.{cases_eq, cases_lt, ltb-true, ltb-false}
use Rattle.std.proofs.lemmas.Bool.Decides.{nat_tests}
use Rattle.std.proofs.lemmas.List.{append-nil, append_assoc, drop_more, get_or-take, length-take-le, take-append-drop}
use Rattle.std.proofs.lemmas.List.Folds.{length-prefix_len}
use Rattle.std.proofs.lemmas.List.Sums.{prefix_len-le-length, prefix_len_passes, prefix_len_stops}
use Rattle.std.specs.List.{prefix_len, take_while}
use Rattle.refusals.specs.declared.Fault.{Fault}
use Rattle.refusals.specs.declared.Refusal.TheVariants.{EndsEarly, LeftOver, OutsideLimit, PlanTooLong}
use Rattle.feeders.proofs.Sets.{all_below_cons, all_below-get_or}
use Rattle.feeders.specs.Sets.{all_below}
use Rattle.records.specs.Reading.{fault_at, list_at}

-- actions at the front are read
pub list_along : (k : ℕ) (read more rest : List ℕ) → k ≤ 32 → T (all_below k more) → length (read ++ more) ≤ 16384 → list_at k read (more ++ rest) ≡ list_at k (read ++ more) rest
list_along k read [] rest few there short = rw append-nil
list_along k read (a ∷ more) rest few there short =
    let p = (all_below_cons k a more).0 there in
    let lt : a < k = p.0 in
    let same : (read ++ (a ∷ [])) ++ more ≡ read ++ (a ∷ more) = append_assoc read (a ∷ []) more in
    let one : list_at k read (a ∷ (more ++ rest)) ≡ list_at k (read ++ (a ∷ [])) (more ++ rest) = grind (arith, nat_tests, length-append read (a ∷ more)) in
    one ∙ list_along k (read ++ (a ∷ [])) more rest few p.1 (rw same short) ∙ rw same

-- how many actions stand at the front, and the count of them that the code makes
abbrev front_len : ℕ → List ℕ → ℕ
front_len k rest = prefix_len (λ b. ltb b k) rest

abbrev pub counted : ℕ → List ℕ → ℕ
counted k rest = length (take 16384 (take_while (λ b. ltb b k) rest))

module _ (k : ℕ) (rest : List ℕ) (n : ℕ) (is : n ≡ counted k rest) where
  count : n ≡ min 16384 (front_len k rest)
  count = omega (arith, is, length-take 16384 (take_while (λ b. ltb b k) rest), length-prefix_len (λ b. ltb b k) rest)

  long : length (take n rest) ≡ n
  long = length-take-le n rest (omega (arith, count, prefix_len-le-length (λ b. ltb b k) rest))

  front_there : T (all_below k (take n rest))
  front_there =
      (all_below-get_or k (take n rest)).1 (λ i h.
      let lt : i < n = omega (arith, long) in
      rw (get_or-take n rest i 0 lt) (ltb-true (get_or rest i 0) k (prefix_len_passes (λ b. ltb b k) rest i 0 (omega (arith, count)))))

  pub list_counted : (list after : List ℕ) → k ≤ 32 → list ≡ take n rest → after ≡ drop n rest → list_at k [] rest ≡ list_at k list after
  list_counted list after few front back =
      let fits : length (take n rest) ≤ 16384 = omega (arith, count, long) in
      ap (list_at k []) (sym (take-append-drop n rest)) ∙ list_along k [] (take n rest) (drop n rest) few front_there fits ∙ rw (front, back)

  -- an action after them is one too many
  pub counted_full : (after : List ℕ) → after ≡ drop n rest → 1 ≤ length after → get_or after 0 0 < k → n ≡ 16384
  counted_full after back some lt = elim (cases_lt n 16384) [
    | inl few ↦
        let same : front_len k rest ≡ n = omega (arith, count) in
        let here : n < length rest = omega (arith, ap length back, length-drop n rest) in
        let stops = rw same at (prefix_len_stops (λ b. ltb b k) rest 0 (omega arith)) in
        let ge : k ≤ get_or rest n 0 = ltb-false (get_or rest n 0) k stops in
        let is : get_or after 0 0 ≡ get_or rest n 0 = rw (back, drop_more rest n 0 here) in
        absurd (omega arith)
    | inr many ↦ omega (arith, count)
  ]

-- what can stand after the actions that are read
pub data After (k : ℕ) (read : List ℕ) : List ℕ → Type 0 where
  cut : After k read []
  ended : After k read (32 ∷ [])
  left_over : (x : ℕ) (rest : List ℕ) → After k read (32 ∷ (x ∷ rest))
  outside : (b : ℕ) (rest : List ℕ) → (b ≡ 32 → ⊥) → k ≤ b → After k read (b ∷ rest)
  too_long : (b : ℕ) (rest : List ℕ) → b < k → length read ≡ 16384 → After k read (b ∷ rest)

after_end : (k : ℕ) (read rest : List ℕ) → After k read (32 ∷ rest)
after_end k read [] = ended
after_end k read (x ∷ rest) = left_over x rest

after_is : (k : ℕ) (read after : List ℕ) → (1 ≤ length after → get_or after 0 0 < k → length read ≡ 16384) → After k read after
after_is k read [] stops = cut
after_is k read (b ∷ rest) stops = elim (cases_lt b k) [
  | inl lt ↦ too_long b rest lt (stops (omega arith) lt)
  | inr ge ↦ elim (cases_eq b 32) [
    | inl end ↦ subst (λ m. After k read (m ∷ rest)) (sym end) (after_end k read rest)
    | inr ne ↦ outside b rest ne ge
  ]
]

-- bytes as actions and what stands after them
pub record Split (k : ℕ) (rest : List ℕ) : Type 0 where
  pub read : List ℕ
  pub after : List ℕ
  pub is : rest ≡ read ++ after
  pub there : T (all_below k read)
  pub short : length read ≤ 16384
  pub next : After k read after

pub split : (k : ℕ) (rest : List ℕ) → Split k rest
split k rest =
    let n : ℕ = counted k rest in
    let size : length (take n rest) ≡ n = long k rest n refl in
    record {
      read = take n rest;
      after = drop n rest;
      is = sym (take-append-drop n rest);
      there = front_there k rest n refl;
      short = omega (arith, count k rest n refl);
      next = after_is k (take n rest) (drop n rest) (λ some lt. size ∙ counted_full k rest n refl (drop n rest) refl some lt);
    }

-- what the bytes after the actions come to
abbrev pub outcome : (k : ℕ) (read : List ℕ) {after : List ℕ} → After k read after → Result (List ℕ) Fault
outcome k read cut = Err (fault_at EndsEarly (4 + length read))
outcome k read ended = Ok read
outcome k read (left_over x rest) = Err (fault_at LeftOver (5 + length read))
outcome k read (outside b rest ne out) = Err (fault_at OutsideLimit (4 + length read))
outcome k read (too_long b rest lt full) = Err (fault_at PlanTooLong (4 + length read))

pub list_after : (k : ℕ) (read : List ℕ) {after : List ℕ} → k ≤ 32 → (next : After k read after) → list_at k read after ≡ outcome k read next
list_after k read few cut = refl
list_after k read few ended = refl
list_after k read few (left_over x rest) = refl
list_after k read few (outside b rest ne out) = grind (arith, nat_tests)
list_after k read few (too_long b rest lt full) = grind (arith, nat_tests)
