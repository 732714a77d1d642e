-- One turn of the planner: the way of the nearest pair is appended, and the set is brought along it.
use Rattle.std.proofs.Common.{◌≡◌, ℕ, ◌-◌, ◌^◌, ◌<◌, List, length, take, drop, Ok, Result, sym, ap, ◌∙◌, subst}
use Rattle.std.proofs.lemmas.List.{drop_at, take_rest}
use Rattle.std.proofs.lemmas.Bool.{lt-ltb}
use Rattle.refusals.specs.declared.Refusal.{Refusal}
use Rattle.feeders.specs.Motion.{Motion, Valid}
use Rattle.feeders.specs.Sets.{all_below}
use Rattle.feeders.specs.Image.{image, imaged}
use Rattle.feeders.proofs.Sets.{true_of_T}
use Rattle.feeders.proofs.Images.{imaged_ok}
use Rattle.graphs.specs.Pairs.{pair_node, pair_graph}
use Rattle.graphs.specs.PairRule.{Nearest}
use Rattle.planning.specs.Round.{size, Round}
use Rattle.planning.specs.Walk.{Extends}
use Rattle.planning.proofs.Rounds.{way_below, round_falls, round_more}

-- The set is brought to `next` and the plan to `after`, by the way of a nearest pair.
pub record Turn (m : Motion) (perm s here : ℕ) (after : List ℕ) (brought : Result ℕ Refusal) : Type 0 where
  pub next : ℕ
  pub is : brought ≡ Ok next
  pub falls : size next < size here
  pub more : Round m perm s next after

-- xs is the plan as the code sees it, with the way at its end
module _ (m : Motion) (perm s here : ℕ) (made after xs : List ℕ) (before p q d : ℕ) (ok : Valid m) (round : Round m perm s here made) (near : Nearest m perm here p q d) (x : Extends (pair_graph m) perm (pair_node p q) made after) (shown : xs ≡ after) (counted : before ≡ length made) where
  part : take (length xs - before) (drop before xs) ≡ x.way
  part = take_rest xs before ∙ ap (drop before) (shown ∙ x.joined) ∙ drop_at made x.way before (sym counted)

  pub turned : (brought : Result ℕ Refusal) → brought ≡ imaged m here (take (length xs - before) (drop before xs)) → Turn m perm s here after brought
  turned brought answer = record {
    next = image m here x.way;
    is = answer ∙ ap (imaged m here) part
        ∙ imaged_ok m here x.way (lt-ltb here (2 ^ m.poses) round.inside) (true_of_T (all_below m.actions x.way) (way_below m perm s here made ok round p q d near x.way x.is));
    falls = round_falls m perm s here made ok round p q d near x.way x.is;
    more = subst (Round m perm s (image m here x.way)) (sym x.joined) (round_more m perm s here made ok round p q d near x.way x.is);
  }
