-- Lists that hold each number below their length exactly once.
use Rattle.std.specs.Prelude.{◌≡◌, ℕ, ◌<◌, ◌≤◌, List, length, count_by, ◌==◌}

-- how many times q stands in the list
abbrev pub times : ℕ → List ℕ → ℕ
times q w = count_by (λ x. x == q) w

abbrev pub OnceEach : List ℕ → Type 0
OnceEach list = (q : ℕ) → q < length list → times q list ≡ 1

-- the lists that fill a table of 32 places
pub record Fills (list : List ℕ) : Type 0 where
  pub few : length list ≤ 32
  pub once : OnceEach list
