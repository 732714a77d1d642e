-- The number of each direction: the action that tilts that way.
use Rattle.std.specs.Prelude.{◌≡◌, ℕ, ◌≤◌, Result, MatchResult}
use Rattle.refusals.specs.declared.Refusal.{Refusal}
use Rattle.refusals.specs.declared.Refusal.TheVariants.{NoAction}
use Rattle.trays.specs.declared.direction.Direction.{Direction}
use Rattle.trays.specs.declared.direction.Direction.TheVariants.{North, East, South, West}

abbrev pub tilt_of : Direction → ℕ
tilt_of North = 0
tilt_of East = 1
tilt_of South = 2
tilt_of West = 3

-- The direction that an action tilts, or the refusal of an action that tilts none.
abbrev pub Tilting : ℕ → Result Direction Refusal → Type 0
Tilting action r = MatchResult r (λ d. tilt_of d ≡ action) (λ e. (4 ≤ action) × (e ≡ NoAction))
