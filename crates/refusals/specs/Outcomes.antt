-- What a call that may refuse answers, and what it leaves of what it works on.
use Rattle.std.specs.Prelude.{◌≡◌, Ok, Err, Result}

-- `outcome` is what should come of the call, and `holds` what the thing worked on holds.
-- An accepted call leaves the outcome there; a refused one answers why, and leaves all as it was.
abbrev pub Leaves : {S X U E : Type 0} → (S → X) → Result X E → S → S → Result U E → Type 0
Leaves holds outcome before after (Ok u) = outcome ≡ Ok (holds after)
Leaves holds outcome before after (Err e) = (outcome ≡ Err e) × (after ≡ before)

-- What a reader answers: what the outcome holds, or why it is refused.
abbrev pub Gives : {S X E : Type 0} → (S → X) → Result X E → Result S E → Type 0
Gives holds outcome (Ok x) = outcome ≡ Ok (holds x)
Gives holds outcome (Err e) = outcome ≡ Err e
