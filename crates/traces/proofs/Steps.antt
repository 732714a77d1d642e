-- How a trace grows: one action and one row more.
use Rattle.std.proofs.Common.{◌≡◌, ℕ, zero, suc, ◌+◌, ◌-◌, ◌*◌, ◌^◌, ◌<◌, ◌≤◌, T, List, [], ◌∷◌, ◌++◌, length, get_or, take, drop, Some, None, Option, sym, refl, ap, ◌∙◌, subst, inl, inr, append_assoc, add-one, arith, length-append, length-drop}
use borrow.Rule.Slice.PartMut.{put_mid}
use Rattle.std.proofs.lemmas.List.{take_more, take_all, take_at, drop_at, drop-drop, take-append-drop, drop-append-le, take-append-le}
use Rattle.std.proofs.lemmas.Bool.{cases_lt}
use Rattle.feeders.specs.Motion.{Motion, Valid}
use Rattle.feeders.specs.Sets.{all_below}
use Rattle.feeders.specs.Image.{image}
use Rattle.feeders.proofs.Images.{image-append, image-below}
use Rattle.feeders.proofs.Sets.{all_below-append}
use Rattle.traces.specs.Rows.{row_of}
use Rattle.traces.specs.Trace.{performed, row_at, rows_to, TraceLaws}

row_length : (a : Option ℕ) (s : ℕ) → length (row_of a s) ≡ 12
row_length None s = refl
row_length (Some a) s = refl

-- ---- where rows stand

module _ (m : Motion) (s : ℕ) (w : List ℕ) where
  rows_length : (n : ℕ) → length (rows_to m s w n) ≡ 12 * n
  rows_length zero = refl
  rows_length (suc n) =
      length-append (rows_to m s w n) (row_at m s w n)
      ∙ omega (arith, rows_length n, row_length (performed w n) (image m s (take n w)))

  row_last : (i : ℕ) → take 12 (drop (12 * i) (rows_to m s w (suc i))) ≡ row_at m s w i
  row_last i =
      ap (take 12) (drop_at (rows_to m s w i) (row_at m s w i) (12 * i) (rows_length i))
      ∙ take_all 12 (row_at m s w i) (omega (arith, row_length (performed w i) (image m s (take i w))))

  -- more rows do not move those before them
  row_stands : (i n : ℕ) → i < n → take 12 (drop (12 * i) (rows_to m s w n)) ≡ row_at m s w i
  row_stands i zero h = let z : ⊥ = omega arith in absurd z
  row_stands i (suc n) h =
      elim (cases_lt i n) [
        | inl l ↦
            let long : 12 * i + 12 ≤ length (rows_to m s w n) = omega (arith, rows_length n) in
            let rest : 12 ≤ length (drop (12 * i) (rows_to m s w n)) = omega (arith, length-drop (12 * i) (rows_to m s w n)) in
            ap (take 12) (drop-append-le (12 * i) (rows_to m s w n) (row_at m s w n) (omega arith))
            ∙ take-append-le 12 (drop (12 * i) (rows_to m s w n)) (row_at m s w n) rest ∙ row_stands i n l
        | inr e ↦ let same : suc n ≡ suc i = omega arith in ap (λ (k : ℕ). take 12 (drop (12 * i) (rows_to m s w k))) same ∙ row_last i
      ]

  pub trace_laws : TraceLaws m s w
  trace_laws = record { long = rows_length (length w + 1); rows = λ i h. row_stands i (length w + 1) (omega arith) }

  -- one row more: out was old when the rows began
  pub rows_more : (out old last : List ℕ) (i : ℕ) → out ≡ rows_to m s w i ++ drop (12 * i) old → last ≡ row_at m s w i → put_mid (12 * i) (12 * i + 12 - 12 * i) out last ≡ rows_to m s w (i + 1) ++ drop (12 * (i + 1)) old
  rows_more out old last i is wrote =
      let front : length (rows_to m s w i) ≡ 12 * i = rows_length i in
      let k : 12 * i + 12 - 12 * i ≡ 12 = omega arith in
      let n : 12 * i + 12 ≡ 12 * (i + 1) = omega arith in
      rw (is, wrote, k, take_at (rows_to m s w i) (drop (12 * i) old) (12 * i) front, drop_at (rows_to m s w i) (drop (12 * i) old) (12 * i) front, drop-drop 12 (12 * i) old, n, add-one i)
      (sym (append_assoc (rows_to m s w i) (row_at m s w i) (drop (12 * suc i) old)))

  -- the row of an action
  pub row_more : (i here : ℕ) → here ≡ image m s (take (i + 1) w) → row_of (Some (get_or w i 0)) here ≡ row_at m s w (i + 1)
  row_more i here is = rw (is, add-one i)

-- ---- the set, brought along

module _ (m : Motion) (valid : Valid m) (s : ℕ) (w : List ℕ) (below : T (all_below m.actions w)) where
  front_below : (n : ℕ) → T (all_below m.actions (take n w))
  front_below n =
      ((all_below-append m.actions (take n w) (drop n w)).0 (subst (λ (x : List ℕ). T (all_below m.actions x)) (sym (take-append-drop n w)) below)).0

  pub along_below : (n : ℕ) → image m s (take n w) < 2 ^ m.poses
  along_below n = image-below m valid s (take n w) (front_below n)

  pub along_more : (here n : ℕ) → n < length w → here ≡ image m s (take n w) → image m here (get_or w n 0 ∷ []) ≡ image m s (take (n + 1) w)
  along_more here n h e =
      ap (λ (x : ℕ). image m x (get_or w n 0 ∷ [])) e ∙ sym (image-append m valid s (take n w) (get_or w n 0 ∷ []) (front_below n))
      ∙ ap (image m s) (sym (take_more w n 0 h))
