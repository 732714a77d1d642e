-- A row as the code writes it, part by part.
use Rattle.std.proofs.Common.{◌≡◌, ℕ, suc, zero, ◌+◌, ◌*◌, ◌^◌, List, [], ◌∷◌, ◌++◌, length, get_or, drop, slice_set, Some, None, Option, sym, refl, ap, ◌∙◌, pow-suc, arith}
use borrow.Rule.Slice.PartMut.{put_mid}
use Rattle.std.proofs.lemmas.List.{drop_all, drop_more, drop-drop}
use Rattle.std.proofs.lemmas.Nat.{pow-add}
use Rattle.traces.specs.Rows.{hex8, mark, row_of}

-- four bits to a hex digit
pub bits_digits : (k : ℕ) → 2 ^ (4 * k) ≡ 16 ^ k
bits_digits zero = refl
bits_digits (suc k) =
    let e : 4 * suc k ≡ 4 * k + 4 = omega arith in
    ap (λ (n : ℕ). 2 ^ n) e ∙ pow-add 2 (4 * k) 4 ∙ ap (λ (n : ℕ). n * 16) (bits_digits k) ∙ sym (pow-suc 16 k)

-- the mark, a blank, the digits and LF, each written in its place
module _ (s : ℕ) (row : List ℕ) (long : length row ≡ 12) where
  third : drop 2 row ≡ get_or row 2 0 ∷ drop 3 row
  third = drop_more row 2 0 (omega arith)

  last : drop 8 (drop 3 row) ≡ get_or row 11 0 ∷ []
  last = drop-drop 8 3 row ∙ drop_more row 11 0 (omega arith) ∙ ap (λ r. get_or row 11 0 ∷ r) (drop_all 12 row (omega arith))

  pub row_written : (a : Option ℕ) → slice_set (put_mid 3 8 (slice_set (mark a ++ drop 2 row) 2 32) (hex8 s)) 11 10 ≡ row_of a s
  row_written None = rw (third, last)
  row_written (Some n) = rw (third, last)
