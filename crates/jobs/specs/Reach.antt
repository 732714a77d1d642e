-- Which jobs the calls can make, and what a call on such a job does.
use Rattle.std.specs.Prelude.{◌≡◌, cond, List, ◌∷◌, Some, None, Ok, Err}
use Rattle.feeders.specs.Motion.{Motion}
use Rattle.plans.specs.Held.{list_of}
use Rattle.histories.specs.History.{permitted, possible}
use Rattle.histories.specs.Rules.{Plans, Answer, Rule, Held}
use Rattle.histories.specs.Promise.{Sure}
use Rattle.histories.specs.declared.call.Call.{Call}
use Rattle.jobs.specs.declared.job.Job.{Job}

-- the plan that a job holds
abbrev pub plan_of : {F : Type 0} → Job F → Plans
plan_of j = cond j.held (Some (list_of j.plan)) None

-- The calls h, made on a new job over a feeder with the motion m, lead to the job j, which holds `plan`:
-- what the job stores is what the words of the guarantee make of the calls.
pub record Reached {F : Type 0} (m : Motion) (h : List Call) (plan : Plans) (j : Job F) : Type 0 where
  pub allowed_as : j.allowed ≡ permitted m h
  pub poses_as : j.poses ≡ possible m h
  pub plan_as : plan_of j ≡ plan
  pub held_as : Held m h plan

-- Whatever calls led to the job j, the call c, answered by r, leads from it to the job k, by the rules and surely.
abbrev pub Leads : {F : Type 0} → Motion → Job F → Call → Job F → Answer → Type 0
Leads m j c k r = (h : List Call) (before : Plans) → Reached m h before j → (after : Plans) × Reached m (c ∷ h) after k × Rule m h before c after r × Sure m h c before after r

-- a refused call leaves the job as it was, to the last byte
abbrev pub Kept : {J : Type 0} → J → J → Answer → Type 0
Kept j k (Ok l) = Unit {0}
Kept j k (Err e) = k ≡ j

-- What a call c on the job j does: it answers r and leaves the job k.
pub record Performs {F : Type 0} (m : Motion) (j : Job F) (c : Call) (k : Job F) (r : Answer) : Type 0 where
  pub feeder_same : k.feeder ≡ j.feeder
  pub kept : Kept j k r
  pub leads : Leads m j c k r
