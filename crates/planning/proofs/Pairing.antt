-- The node of a pair of the set, and that the ground and the table have it.
use Rattle.std.proofs.Common.{◌≡◌, ℕ, ◌+◌, ◌<◌, cond, ◌&&◌, ltb, List, Ok, Err, Result, ap, ◌∙◌, arith}
use Rattle.std.proofs.lemmas.Bool.{and_from, cond-true, lt-ltb}
use Rattle.refusals.specs.declared.Refusal.TheVariants.{NoPose}
use Rattle.graphs.specs.Pairs.{start, pair_node, node_of}
use Rattle.graphs.proofs.Meeting.{node_of-less}
use Rattle.graphs.proofs.Numbering.{pair_inside}
use Rattle.grounds.specs.Reach.{entry_of, distance_told}

module _ (n p q : ℕ) (l : p < q) (k : q < n) where
  pub node_is : cond (ltb p n && ltb q n) (Ok (node_of n p q)) (Err NoPose) ≡ Ok (pair_node p q)
  node_is =
      cond-true (ltb p n && ltb q n) (Ok (node_of n p q)) (Err NoPose) (and_from (ltb p n) (ltb q n) (lt-ltb p n (omega arith)) (lt-ltb q n k))
      ∙ ap Ok (node_of-less n p q l)

  pub told_is : (table : List ℕ) → distance_told table (start n + 1) (pair_node p q) ≡ Ok (entry_of table (pair_node p q))
  told_is table =
      cond-true (ltb (pair_node p q) (start n + 1)) (Ok (entry_of table (pair_node p q))) (Err NoPose) (lt-ltb (pair_node p q) (start n + 1) (omega (arith, pair_inside p q n l k)))

pub same_Ok : {A E : Type 0} {x y : A} → ◌≡◌ {A = Result A E} (Ok x) (Ok y) → x ≡ y
same_Ok e = cc
