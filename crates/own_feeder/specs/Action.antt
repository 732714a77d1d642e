-- The number that names each action of a dial.
use Rattle.std.specs.Prelude.{◌≡◌, ℕ, ◌<◌, Result, MatchResult}
use Rattle.refusals.specs.declared.Refusal.{Refusal}
use Rattle.refusals.specs.declared.Refusal.TheVariants.{NoAction}
use Rattle.own_feeder.specs.declared.action.Action.{Action}
use Rattle.own_feeder.specs.declared.action.Action.TheVariants.{Turn, Kick}

abbrev pub number_of : Action → ℕ
number_of Turn = 0
number_of Kick = 1

-- the result is the action with this number, or the refusal of a number that no action has
abbrev pub Decodes : ℕ → Result Action Refusal → Type 0
Decodes number r = MatchResult r (λ action. number_of action ≡ number) (λ e. (e ≡ NoAction) × (1 < number))
