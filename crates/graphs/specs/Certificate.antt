-- A test of a table of distances that looks at one node and its labels at a time.
use Rattle.std.specs.Prelude.{◌≡◌, ℕ, zero, suc, ◌+◌, ◌<◌, ◌≤◌, Bool, true, false, T, List, ◌==◌, ◌≢◌, nat_le, slice_index_or}
use Rattle.feeders.specs.Sets.{has}
use Rattle.graphs.specs.Graph.{Graph}
use Rattle.graphs.specs.Distance.{Usable}

-- the entry of a node that has no distance
abbrev pub none : ℕ
none = 65535

-- what the table says of node v
abbrev pub told : List ℕ → ℕ → ℕ
told table v = slice_index_or table v none

-- The table agrees with itself at every node.
pub record Passes (g : Graph) (s : ℕ) (table : List ℕ) : Type 0 where
  pub small : (v : ℕ) → v < g.nodes → told table v ≤ none
  pub goals : (v : ℕ) → v < g.nodes → T (g.goal v) → told table v ≡ 0
  -- from a node that is reached and no goal some usable label leads one nearer, and none leads nearer still
  pub nearer : (v : ℕ) → v < g.nodes → (T (g.goal v) → ⊥) → (told table v ≢ none) → (a : ℕ) × Usable g s a × (told table (g.next v a) + 1 ≡ told table v)
  pub nearest : (v : ℕ) → v < g.nodes → (T (g.goal v) → ⊥) → (told table v ≢ none) → (b : ℕ) → Usable g s b → (told table (g.next v b) ≢ none) → told table v ≤ told table (g.next v b) + 1
  -- a node that is not reached is no goal, and its usable labels lead to such nodes only
  pub unreached : (v : ℕ) → v < g.nodes → told table v ≡ none → T (g.goal v) → ⊥
  pub closed : (v : ℕ) → v < g.nodes → told table v ≡ none → (b : ℕ) → Usable g s b → told table (g.next v b) ≡ none

-- ---- the same, computed

-- every number below n passes
abbrev pub every_below : ℕ → (ℕ → Bool) → Bool
every_below zero test = true
every_below (suc n) test = elim (test n) [ true ↦ every_below n test | false ↦ false ]

-- some number below n passes
abbrev pub some_below : ℕ → (ℕ → Bool) → Bool
some_below zero test = false
some_below (suc n) test = elim (test n) [ true ↦ true | false ↦ some_below n test ]

-- label b from v, where v is reached and no goal: it is not permitted, or it leads no nearer than one
abbrev pub not_nearer : Graph → ℕ → List ℕ → ℕ → ℕ → Bool
not_nearer g s table v b = elim (has s b) [
  | true ↦ nat_le (told table v) (told table (g.next v b) + 1)
  | false ↦ true
]

-- label a from v is permitted and leads one nearer
abbrev pub one_nearer : Graph → ℕ → List ℕ → ℕ → ℕ → Bool
one_nearer g s table v a = elim (has s a) [
  | true ↦ (told table (g.next v a) + 1 == told table v)
  | false ↦ false
]

-- label b from v, where v is not reached: it is not permitted, or it leads to a node that is not reached
abbrev pub stays_out : Graph → ℕ → List ℕ → ℕ → ℕ → Bool
stays_out g s table v b = elim (has s b) [
  | true ↦ (told table (g.next v b) == none)
  | false ↦ true
]

abbrev pub passes_at : Graph → ℕ → List ℕ → ℕ → Bool
passes_at g s table v = elim (g.goal v) [
  | true ↦ (told table v == 0)
  | false ↦ elim (told table v == none) [
    | true ↦ every_below g.labels (stays_out g s table v)
    | false ↦ elim (nat_le (told table v) none) [
      | true ↦ elim (some_below g.labels (one_nearer g s table v)) [
        | true ↦ every_below g.labels (not_nearer g s table v)
        | false ↦ false
      ]
      | false ↦ false
    ]
  ]
]

abbrev pub passes : Graph → ℕ → List ℕ → Bool
passes g s table = every_below g.nodes (passes_at g s table)
