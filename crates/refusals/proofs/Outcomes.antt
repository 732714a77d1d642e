-- What is said of an outcome is said of each outcome equal to it.
use Rattle.std.proofs.Common.{◌≡◌, Ok, Err, Result, ◌∙◌}
use Rattle.refusals.specs.Outcomes.{Leaves, Gives}

pub leaves_like : {S X U E : Type 0} (holds : S → X) {x y : Result X E} (before after : S) (r : Result U E) → x ≡ y → Leaves holds y before after r → Leaves holds x before after r
leaves_like holds before after (Ok u) e h = e ∙ h
leaves_like holds before after (Err f) e h = (e ∙ h.0, h.1)

pub gives_like : {S X E : Type 0} (holds : S → X) {x y : Result X E} (r : Result S E) → x ≡ y → Gives holds y r → Gives holds x r
gives_like holds (Ok s) e h = e ∙ h
gives_like holds (Err f) e h = e ∙ h
