-- The first line of bytes, by where the first LF stands.
use Rattle.std.proofs.Common.{◌≡◌, ℕ, zero, suc, ◌+◌, ◌<◌, ◌≤◌, eqb, List, [], ◌∷◌, ◌++◌, length, get_or, take, drop, sym, refl, ap, ◌∙◌, inl, inr, arith, length-drop}
use Rattle.std.proofs.lemmas.List.{take-append-drop, take_all, drop_more}
use Rattle.std.proofs.lemmas.Bool.{cond-false, ne_eqb}
use Rattle.scripts.specs.Split.{onto, lines_of, Unbroken, FirstLine}

lines_of_other : (b : ℕ) (bs : List ℕ) → (b ≡ 10 → ⊥) → lines_of (b ∷ bs) ≡ onto b (lines_of bs)
lines_of_other b bs n = cond-false (eqb b 10) ([] ∷ lines_of bs) (onto b (lines_of bs)) (ne_eqb b 10 n)

lines_of_break : (line after : List ℕ) → Unbroken line → lines_of (line ++ (10 ∷ after)) ≡ line ∷ lines_of after
lines_of_break [] after u = refl
lines_of_break (b ∷ line) after u =
    lines_of_other b (line ++ (10 ∷ after)) u.0 ∙ ap (onto b) (lines_of_break line after u.1)

lines_of_unbroken : (line : List ℕ) → Unbroken line → 0 < length line → lines_of line ≡ line ∷ []
lines_of_unbroken [] u h = let z : ⊥ = omega arith in absurd z
lines_of_unbroken (b ∷ []) u h = lines_of_other b [] u.0
lines_of_unbroken (b ∷ (d ∷ line)) u h =
    lines_of_other b (d ∷ line) u.0 ∙ ap (onto b) (lines_of_unbroken (d ∷ line) u.1 (omega arith))

unbroken_front : (bs : List ℕ) (n : ℕ) → n ≤ length bs → ((k : ℕ) → k < n → get_or bs k 0 ≡ 10 → ⊥) → Unbroken (take n bs)
unbroken_front bs zero h before = tt
unbroken_front [] (suc n) h before = tt
unbroken_front (b ∷ bs) (suc n) h before =
    (before 0 (omega arith), unbroken_front bs n (omega arith) (λ k l. before (suc k) (omega arith)))

module _ (rest : List ℕ) (end : ℕ) (within : end ≤ length rest) (before : (k : ℕ) → k < end → get_or rest k 0 ≡ 10 → ⊥) where
  pub first_ended : end < length rest → get_or rest end 0 ≡ 10 → FirstLine rest (take end rest) (drop (end + 1) rest)
  first_ended h lf =
      let line = take end rest in
      let after = drop (end + 1) rest in
      let u = unbroken_front rest end within before in
      let e : rest ≡ line ++ (10 ∷ after) = sym (take-append-drop end rest) ∙ ap (λ (t : List ℕ). line ++ t) (drop_more rest end 0 h) ∙ ap (λ (b : ℕ). line ++ (b ∷ after)) lf in
      record { unbroken = u; parted = inl e; first = ap lines_of e ∙ lines_of_break line after u; shorter = simp length-drop (omega arith) }

  pub first_only : end ≡ length rest → 0 < length rest → FirstLine rest rest []
  first_only e h =
      let same : take end rest ≡ rest = take_all end rest (omega arith) in
      let u : Unbroken rest = rw (sym same) (unbroken_front rest end within before) in
      record { unbroken = u; parted = inr (refl, refl); first = lines_of_unbroken rest u h; shorter = h }
