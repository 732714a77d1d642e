-- A row of a series table that has one action more at its end.
use Rattle.std.proofs.Common.{◌≡◌, ℕ, ◌<◌, ◌≤◌, T, List, [], ◌∷◌, ◌++◌, map, length, get_or, set, slice_get, Some, Ok, ap, sym, subst, ◌∙◌, inl, inr, length-append, length-set, arith}
use Rattle.std.proofs.lemmas.List.{length-map, map-set, get_or-map, get_or-set_same, get_or-set_other}
use Rattle.std.proofs.lemmas.Bool.{cases_eq}
use Rattle.std.proofs.lemmas.Bool.Decides.{nat_tests}
use Rattle.std.proofs.lemmas.Option.{slice_get_within, get_or_from_slice_get}
use Rattle.feeders.specs.Sets.{all_below}
use Rattle.feeders.proofs.Sets.{all_below-append, all_below_one}
use Rattle.lists.specs.Held.{list_of}
use Rattle.lists.specs.Lends.{with_item}
use Rattle.lists.specs.declared.bounded.Bounded.{Bounded}
use Rattle.lists.proofs.Lent.{list_of-with_item}
use Rattle.layers.specs.Series.{Keeps}
use Rattle.layers.specs.Held.{lengthened}

-- ---- a list of series

-- what holds of each series and of a new one holds after the new one is put in the place of one
each_set : (P : List ℕ → Type 0) (ss : List (List ℕ)) (i : ℕ) (w : List ℕ) → i < length ss → P w → ((j : ℕ) → j < length ss → P (get_or ss j [])) → (j : ℕ) → j < length (set ss i w) → P (get_or (set ss i w) j [])
each_set P ss i w inside h each j lt =
    elim (cases_eq j i) [
      | inl e ↦ subst (λ (x : ℕ). P (get_or (set ss i w) x [])) (sym e) (subst P (sym (get_or-set_same ss i w [] inside)) h)
      | inr ne ↦ subst P (sym (get_or-set_other ss i j w [] ne)) (each j (omega (arith, length-set ss i w)))
    ]

keeps-longer : (ss : List (List ℕ)) (i a : ℕ) → i < length ss → a < 32 → length (get_or ss i []) < 8 → Keeps ss → Keeps (set ss i (get_or ss i [] ++ (a ∷ [])))
keeps-longer ss i a there small room k =
    let w = get_or ss i [] in
    let longer = w ++ (a ∷ []) in
    let short : length longer ≤ 8 = omega (arith, length-append w (a ∷ [])) in
    let entries = (all_below-append 32 w (a ∷ [])).1 (k.entries i there, (all_below_one 32 a).1 small) in
    record {
      some = omega (arith, length-set ss i longer, k.some);
      few = omega (arith, length-set ss i longer, k.few);
      short = each_set (λ v. length v ≤ 8) ss i longer there short k.short;
      entries = each_set (λ v. T (all_below 32 v)) ss i longer there entries k.entries;
    }

-- ---- the rows of a table

pub row-is : {n m : ℕ} (rows : Bounded (Bounded ℕ n) m) (i : ℕ) (r : Bounded ℕ n) → slice_get (list_of rows) i ≡ Some r → get_or (map list_of (list_of rows)) i [] ≡ list_of r
row-is rows i r there =
    get_or-map list_of (list_of rows) i r [] (slice_get_within (list_of rows) i r there)
    ∙ ap list_of (get_or_from_slice_get (list_of rows) i r r there)

-- row i of a table is r, and is lent; s is what it is then, with a at its end
module _ {n m : ℕ} (rows : Bounded (Bounded ℕ n) m) (i a : ℕ) (r s : Bounded ℕ n)
    (there : slice_get (list_of rows) i ≡ Some r) (grown : list_of s ≡ list_of r ++ (a ∷ [])) (small : a < 32) (room : length (list_of r) < 8) where
  abbrev before : List (List ℕ)
  before = map list_of (list_of rows)

  abbrev after : List (List ℕ)
  after = map list_of (list_of (with_item rows i s))

  inside : i < length before
  inside = omega (arith, slice_get_within (list_of rows) i r there, length-map (list_of rows) list_of)

  short : length (get_or before i []) < 8
  short = rw (row-is rows i r there) room

  rows-longer : after ≡ set before i (get_or before i [] ++ (a ∷ []))
  rows-longer =
      ap (map list_of) (list_of-with_item rows i s) ∙ map-set list_of (list_of rows) i s
      ∙ ap (set before i) (grown ∙ ap (λ l. l ++ (a ∷ [])) (sym (row-is rows i r there)))

  pub keeps-after : Keeps before → Keeps after
  keeps-after k = subst Keeps (sym rows-longer) (keeps-longer before i a inside small short k)

  pub lengthened-is : lengthened before i a ≡ Ok after
  lengthened-is = grind (arith, nat_tests, inside, short, rows-longer)
