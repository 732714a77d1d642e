-- What the search for distances keeps, level by level.
use Rattle.std.specs.Prelude.{◌≡◌, ℕ, suc, ◌<◌, ◌≤◌, cond, nat_lt, Bool, T, ◌⊎◌, List, length, true, false, Some, None, Option, ◌≢◌}
use Rattle.graphs.specs.Graph.{Graph}
use Rattle.graphs.specs.Distance.{Usable, Leads, Distance}
use Rattle.graphs.specs.Certificate.{Passes, none, told}

-- The table has the distances of all nodes at distance d or less, and no entry for the others.
pub record Level (g : Graph) (s d : ℕ) (table : List ℕ) : Type 0 where
  pub known : (v : ℕ) → v < g.nodes → (told table v ≢ none) → (told table v ≤ d) × Distance g s v (told table v)
  pub far : (v : ℕ) → v < g.nodes → told table v ≡ none → (w : List ℕ) → Leads g s v w → d < length w
  -- a level past the first is not empty
  pub reached : (d ≡ 0) ⊎ ((v : ℕ) × (v < g.nodes) × Distance g s v d)

-- In the sweep after level d the nodes below k are passed, and `any` says whether one of them was given an entry.
pub record Sweeping (g : Graph) (s d k : ℕ) (any : Bool) (table : List ℕ) : Type 0 where
  pub known : (v : ℕ) → v < g.nodes → (told table v ≢ none) → (told table v ≤ suc d) × Distance g s v (told table v)
  pub far : (v : ℕ) → v < g.nodes → told table v ≡ none → (w : List ℕ) → Leads g s v w → d < length w
  pub passed : (v : ℕ) → v < g.nodes → v < k → told table v ≡ none → (w : List ℕ) → Leads g s v w → suc d < length w
  pub given : T any → (v : ℕ) × (v < g.nodes) × Distance g s v (suc d)
  pub not_given : (T any → ⊥) → (v : ℕ) → v < g.nodes → (told table v ≢ none) → told table v ≤ d

-- What the sweep after level d leaves: the next level where an entry was given, and else the table that passes.
abbrev pub Swept : Graph → ℕ → ℕ → Bool → List ℕ → Type 0
Swept g s d true table = Level g s (suc d) table
Swept g s d false table = Passes g s table

-- the first entry of v: 0 for a goal, and none for another node
abbrev pub first_entry : Graph → ℕ → ℕ
first_entry g v = cond (nat_lt v g.nodes) (cond (g.goal v) 0 none) none

-- label a is usable and leads from v to a node with entry e
abbrev pub LeadsTo : Graph → ℕ → List ℕ → ℕ → ℕ → ℕ → Type 0
LeadsTo g s table v e a = Usable g s a × (told table (g.next v a) ≡ e)

-- What a look for such a label answers: the lowest, or that there is none.
abbrev pub LabelFound : Graph → ℕ → List ℕ → ℕ → ℕ → Option ℕ → Type 0
LabelFound g s table v e (Some a) = LeadsTo g s table v e a × ((b : ℕ) → LeadsTo g s table v e b → a ≤ b)
LabelFound g s table v e None = (b : ℕ) → LeadsTo g s table v e b → ⊥

-- What is answered of node v after level d: it has no entry, and a usable label leads from it to entry d; or it has an entry, or no such label.
abbrev pub NextIf : Graph → ℕ → List ℕ → ℕ → ℕ → Bool → Type 0
NextIf g s table d v true = (told table v ≡ none) × ((a : ℕ) × LeadsTo g s table v d a)
NextIf g s table d v false = told table v ≡ none → (b : ℕ) → LeadsTo g s table v d b → ⊥
