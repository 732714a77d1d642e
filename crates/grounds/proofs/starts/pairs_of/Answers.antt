-- The pairs of n poses end where those with the greater pose n - 1 do.
use Rattle.std.proofs.Common.{◌≡◌, ℕ, zero, suc, ◌+◌, ◌-◌, ◌≤◌, ap, ◌∙◌, arith}
use Rattle.graphs.specs.Pairs.{start}
use Rattle.grounds.proofs.starts.pairs_of.Goals as goal

start_pred : (n : ℕ) → 1 ≤ n → start (n - 1) + (n - 1) ≡ start n
start_pred zero h = let z : ⊥ = omega arith in absurd z
start_pred (suc n) h = let e : suc n - 1 ≡ n = omega arith in ap (λ (k : ℕ). start k + k) e

pub returns : goal.returns
returns c = let n = c.args.n in record { is = ap (λ (x : ℕ). x + (n - 1)) c.start_of.ensures.is ∙ start_pred n c.requires.0; few = omega (arith, c.start_of.ensures.few) }
