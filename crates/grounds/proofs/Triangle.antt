-- The table of the starts: its entries.
use Rattle.std.proofs.Common.{◌≡◌, ℕ, ◌<◌, Bool, eqb, List, [], ◌∷◌, get_or, eqb→eq}
use Rattle.graphs.specs.Pairs.{start}
use Rattle.graphs.proofs.Certificates.{every_below_each}

abbrev pub starts : List ℕ
starts =
    0 ∷ 0 ∷ 1 ∷ 3 ∷ 6 ∷ 10 ∷ 15 ∷ 21 ∷ 28 ∷ 36 ∷ 45 ∷ 55 ∷ 66 ∷ 78 ∷ 91 ∷ 105 ∷ 120 ∷ 136 ∷ 153 ∷ 171 ∷ 190 ∷ 210 ∷ 231 ∷ 253 ∷ 276 ∷ 300
    ∷ 325 ∷ 351 ∷ 378 ∷ 406 ∷ 435 ∷ 465 ∷ []

-- the rule of the table is one test over all its entries, which is computed
abbrev right : ℕ → Bool
right q = eqb (get_or starts q 0) (start q)

pub start_at : (q : ℕ) → q < 32 → get_or starts q 0 ≡ start q
start_at q l = eqb→eq (get_or starts q 0) (start q) (every_below_each 32 right tt q l)
