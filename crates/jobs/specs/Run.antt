-- What a run of calls, all on one new job, answers.
use Rattle.std.specs.Prelude.{ℕ, List, reverse, take, None, Ok, slice_index_or}
use Rattle.feeders.specs.Motion.{Motion}
use Rattle.histories.specs.Rules.{Plans, Answer, Rule, Held}
use Rattle.histories.specs.Promise.{Sure}
use Rattle.histories.specs.declared.call.Call.{Call}
use Rattle.histories.specs.declared.call.Call.TheVariants.{Bar}

-- Of the calls, the one at place i was answered at place i, by the rules and surely; the calls before it are its history.
pub record Placed (m : Motion) (calls : List Call) (answers : List Answer) (i : ℕ) : Type 0 where
  -- the plan that was held before the call, and the one held after it
  pub before : Plans
  pub after : Plans
  pub held : Held m (reverse (take i calls)) before
  pub rule : Rule m (reverse (take i calls)) before (slice_index_or calls i (Bar 0)) after (slice_index_or answers i (Ok None))
  pub sure : Sure m (reverse (take i calls)) (slice_index_or calls i (Bar 0)) before after (slice_index_or answers i (Ok None))
