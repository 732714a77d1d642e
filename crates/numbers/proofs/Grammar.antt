-- What the words of the formats accept: a test, the end, the kind byte, and a number within limits.
use Rattle.std.proofs.Common.{◌≡◌, ℕ, ◌≤◌, Bool, true, List, [], ◌∷◌, Ok, Err, Result, refl, arith}
use Rattle.std.proofs.lemmas.Bool.Decides.{nat_tests}
use Rattle.std.proofs.lemmas.Bool.{cond-true}
use Rattle.refusals.specs.declared.Fault.{Fault}
use Rattle.refusals.specs.declared.Refusal.{Refusal}
use Rattle.numbers.specs.Grammar.{tested, ended, kinded, within}

-- a fault is no acceptance
pub err_ok : {X E : Type 0} (e : E) (x : X) → Err e ≡ Ok x → ⊥
err_ok e x h = cc

-- a test that is passed
pub tested_true : {X : Type 0} (ok : Bool) (e : Refusal) (whole rest : List ℕ) (go : Result X Fault) → ok ≡ true → tested ok e whole rest go ≡ go
tested_true ok e whole rest go h = cond-true ok go _ h

-- what is accepted passed the test
pub tested_only : {X : Type 0} (ok : Bool) (e : Refusal) (whole rest : List ℕ) (go : Result X Fault) (x : X) → tested ok e whole rest go ≡ Ok x → (ok ≡ true) × (go ≡ Ok x)
tested_only ok e whole rest go x h = grind (arith, nat_tests)

-- what is accepted has nothing left
pub ended_only : {X : Type 0} (whole rest : List ℕ) (x y : X) → ended whole rest x ≡ Ok y → (rest ≡ []) × (x ≡ y)
ended_only whole [] x y h = (refl, cc)
ended_only whole (b ∷ rest) x y h = cc

-- what is accepted is of that kind
pub kinded_only : {X : Type 0} (k : ℕ) (whole : List ℕ) (go : List ℕ → Result X Fault) (x : X) → kinded k whole go ≡ Ok x → (rest : List ℕ) × (whole ≡ k ∷ rest) × (go rest ≡ Ok x)
kinded_only k [] go x h = absurd (err_ok _ x h)
kinded_only k (b ∷ rest) go x h = (rest, grind (arith, nat_tests), grind (arith, nat_tests))

-- within is from low to high
pub within_true : (low high v : ℕ) → low ≤ v → v ≤ high → within low high v ≡ true
within_true low high v h k = grind (arith, nat_tests)

pub within_only : (low high v : ℕ) → within low high v ≡ true → (low ≤ v) × (v ≤ high)
within_only low high v h = grind (arith, nat_tests)
