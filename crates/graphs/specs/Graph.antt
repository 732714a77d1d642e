-- What a ground means: nodes, labels that lead from node to node, and goals.
use Rattle.std.specs.Prelude.{ℕ, ◌<◌, ◌≤◌, Bool, cond, List, [], ◌∷◌, Ok, Err, Result, nat_lt}
use Rattle.refusals.specs.declared.Refusal.{Refusal}
use Rattle.refusals.specs.declared.Refusal.TheVariants.{NoPose, NoAction}

-- Nodes and labels are counted from 0; label a leads from node v to node `next v a`.
pub record Graph : Type 0 where
  pub nodes : ℕ
  pub labels : ℕ
  pub next : ℕ → ℕ → ℕ
  pub goal : ℕ → Bool

-- What every ground keeps: 1 to 4,096 nodes, 1 to 32 labels, and no label leaves the nodes.
pub record Sound (g : Graph) : Type 0 where
  pub some_node : 1 ≤ g.nodes
  pub few_nodes : g.nodes ≤ 4096
  pub some_label : 1 ≤ g.labels
  pub few_labels : g.labels ≤ 32
  pub stays : (v a : ℕ) → v < g.nodes → a < g.labels → g.next v a < g.nodes

-- The node to which a list of labels, taken in order, leads from node v.
abbrev pub walk : Graph → ℕ → List ℕ → ℕ
walk g v [] = v
walk g v (a ∷ w) = walk g (g.next v a) w

-- The answers of a ground: an absent node is refused first, then an absent label.
abbrev pub leads_to : Graph → ℕ → ℕ → Result ℕ Refusal
leads_to g v a = cond (nat_lt v g.nodes) (cond (nat_lt a g.labels) (Ok (g.next v a)) (Err NoAction)) (Err NoPose)

abbrev pub is_goal : Graph → ℕ → Result Bool Refusal
is_goal g v = cond (nat_lt v g.nodes) (Ok (g.goal v)) (Err NoPose)
