-- What a list holds once one of its items was lent.
use Rattle.std.proofs.Common.{◌≡◌, ◌⊎◌, ℕ, ◌≤◌, List, set, inl}
use Rattle.std.specs.Coded.{le_prop}
use Rattle.lists.specs.declared.bounded.Bounded.{Bounded}
use Rattle.lists.specs.Held.{list_of}
use Rattle.lists.specs.Lends.{with_item}
use Rattle.lists.proofs.Front.{take-set}

-- two lists that differ only in the proof that they fit are one
pub same_lent : {G T Y Z : Type 0} {N : ℕ} (name : G) (xs : Y → List T) (n : ℕ) (p q : Y → n ≤ N)
    → ◌≡◌ {A = (G × (Y → Bounded T N)) ⊎ Z} (inl (name, λ y. record { items = xs y; length = n; fits = p y })) (inl (name, λ y. record { items = xs y; length = n; fits = q y }))
same_lent name xs n p q = λ i. inl (name, λ y. record { items = xs y; length = n; fits = le_prop (p y) (q y) i })

-- for callers: what was written through the borrow is in its place
pub list_of-with_item : {T : Type 0} {N : ℕ} (b : Bounded T N) (i : ℕ) (x : T) → list_of (with_item b i x) ≡ set (list_of b) i x
list_of-with_item b i x = take-set b.length b.items i x
