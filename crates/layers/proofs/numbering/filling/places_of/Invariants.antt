-- What the loop keeps: each number passed has its place, and the numbers past the list their own.
use Rattle.std.proofs.Common.{◌≡◌, ℕ, ◌<◌, ◌≤◌, length, get_or}
use Rattle.layers.proofs.numbering.filling.places_of.Given as goal

abbrev pub invariant-loop-at : goal.invariant-loop-at
invariant-loop-at l =
    (length l.place ≡ 32)
    × ((k : ℕ) → k < l.at → get_or l.place (get_or l.list k 0) 0 ≡ k)
    × ((q : ℕ) → length l.list ≤ q → q < 32 → get_or l.place q 0 ≡ q)
