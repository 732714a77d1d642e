-- What a search for the nearest goal answers, in the words of distances.
use Rattle.std.specs.Prelude.{◌≡◌, ℕ, suc, ◌<◌, ◌≤◌, cond, T, List, Some, None, Ok, Err, Option, Result, ◌==◌, nat_lt}
use Rattle.refusals.specs.declared.Refusal.{Refusal}
use Rattle.refusals.specs.declared.Refusal.TheVariants.{NoPose}
use Rattle.graphs.specs.Graph.{Graph}
use Rattle.graphs.specs.Distance.{Distance, NoDistance, First}
use Rattle.graphs.specs.Certificate.{none, told}
use Rattle.grounds.specs.declared.reach.Reach.{Reach}
use Rattle.grounds.specs.declared.reach.Reach.TheVariants.{Goal, Step, Never}

-- The node is refused where it is absent, and only there. Else it is a goal; or it has a distance d of 1 or more,
-- and a is the lowest usable label whose next node is one nearer; or it has no distance.
abbrev pub Reaches : Graph → ℕ → ℕ → Result Reach Refusal → Type 0
Reaches g s v (Err e) = (g.nodes ≤ v) × (e ≡ NoPose)
Reaches g s v (Ok Goal) = (v < g.nodes) × T (g.goal v)
Reaches g s v (Ok (Step d a)) = (v < g.nodes) × ((e : ℕ) × (d ≡ suc e) × Distance g s v d × First g s v e a)
Reaches g s v (Ok Never) = (v < g.nodes) × NoDistance g s v

-- One step of the way from v: its label, and the node that follows. There is none at a goal, where v has no distance, and where it is absent.
abbrev pub StepsTo : Graph → ℕ → ℕ → Option (ℕ × ℕ) → Type 0
StepsTo g s v (Some (a, u)) = (v < g.nodes) × ((e : ℕ) × Distance g s v (suc e) × First g s v e a) × (u ≡ g.next v a)
StepsTo g s v None = (e : ℕ) → v < g.nodes → Distance g s v (suc e) → ⊥

-- What a table says of v: its entry, if it has one.
abbrev pub entry_of : List ℕ → ℕ → Option ℕ
entry_of table v = cond (told table v == none) None (Some (told table v))

-- What a table of so many nodes answers of v.
abbrev pub distance_told : List ℕ → ℕ → ℕ → Result (Option ℕ) Refusal
distance_told table nodes v = cond (nat_lt v nodes) (Ok (entry_of table v)) (Err NoPose)

-- The distance of v, or that it has none; an absent node is refused.
abbrev pub Away : Graph → ℕ → ℕ → Result (Option ℕ) Refusal → Type 0
Away g s v (Err e) = (g.nodes ≤ v) × (e ≡ NoPose)
Away g s v (Ok (Some d)) = (v < g.nodes) × Distance g s v d
Away g s v (Ok None) = (v < g.nodes) × NoDistance g s v
