-- The requests of a script, and the lines that spell them.
use Rattle.std.specs.Prelude.{◌≡◌, ℕ, ◌+◌, ◌-◌, ◌*◌, ◌^◌, ◌≤◌, List, [], ◌∷◌, length, Some, None, Option}
use Rattle.scripts.specs.declared.request.Request.{Request}
use Rattle.scripts.specs.declared.request.Request.TheVariants.{Bar, Allow, Shake, Step, Plan, Add, Cut, Aim, Trace}

-- the letter of each request
abbrev pub letter_of : Request → ℕ
letter_of (Bar n) = 66  -- B
letter_of (Allow n) = 65  -- A
letter_of Shake = 75  -- K
letter_of (Step n) = 83  -- S
letter_of Plan = 80  -- P
letter_of (Add n) = 68  -- D
letter_of (Cut n) = 67  -- C
letter_of (Aim n) = 77  -- M
letter_of Trace = 84  -- T

-- the number that a request carries, if it carries one
abbrev pub carried_by : Request → Option ℕ
carried_by (Bar n) = Some n
carried_by (Allow n) = Some n
carried_by Shake = None
carried_by (Step n) = Some n
carried_by Plan = None
carried_by (Add n) = Some n
carried_by (Cut n) = Some n
carried_by (Aim n) = Some n
carried_by Trace = None

-- the bytes are decimal digits: 48 is 0, and 57 is 9
abbrev pub AreDigits : List ℕ → Type 0
AreDigits [] = Unit {0}
AreDigits (d ∷ ds) = (48 ≤ d) × (d ≤ 57) × AreDigits ds

-- the number that digits write: each has the weight of its place
abbrev pub value_of : List ℕ → ℕ
value_of [] = 0
value_of (d ∷ ds) = (d - 48) * 10 ^ length ds + value_of ds

-- what follows the letter: nothing, or one blank and one to five digits that write the number
abbrev pub Carries : Option ℕ → List ℕ → Type 0
Carries None rest = rest ≡ []
Carries (Some n) rest = (ds : List ℕ) × (rest ≡ 32 ∷ ds) × (1 ≤ length ds) × (length ds ≤ 5) × AreDigits ds × (value_of ds ≡ n)

-- the line spells the request: its letter, and what follows
abbrev pub Spells : List ℕ → Request → Type 0
Spells line r = (rest : List ℕ) × (line ≡ letter_of r ∷ rest) × Carries (carried_by r) rest
