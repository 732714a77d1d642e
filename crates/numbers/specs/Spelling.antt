-- What the spelling of numbers is good for: one spelling for each number, accepted in front of any bytes.
use Rattle.std.specs.Prelude.{◌≡◌, ℕ, ◌^◌, ◌<◌, List, ◌++◌, Ok}
use Rattle.numbers.specs.Number.{Read, spell, number_at}

pub record OneSpelling : Type 0 where
  -- a number of 32 bits is accepted in its spelling, in front of any bytes
  pub accepted : (v : ℕ) (rest : List ℕ) → v < 2 ^ 32 → number_at (spell v ++ rest) ≡ Ok (record { value = v; rest = rest })
  -- and in no other spelling: what is accepted is the spelling of a number of 32 bits
  pub only : (bytes : List ℕ) (n : Read) → number_at bytes ≡ Ok n → (n.value < 2 ^ 32) × (bytes ≡ spell n.value ++ n.rest)
