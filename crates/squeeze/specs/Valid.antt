-- Every squeeze table keeps the rule, and the motion of whatever keeps the rule is that of a feeder.
use Rattle.std.specs.Prelude.{◌≡◌, ℕ, suc, ◌+◌, ◌-◌, ◌%◌, ◌<◌, ◌≤◌, cond, List, [], ◌∷◌, length, take, nat_le, slice_index}
use Rattle.std.proofs.Common.{arith, ap}
use Rattle.std.proofs.lemmas.List.{get_or-take}
use Rattle.std.proofs.lemmas.Bool.{cond_both}
use Rattle.feeders.specs.Motion.{Valid}
use Rattle.squeeze.specs.declared.step.Step.{Step}
use Rattle.squeeze.specs.declared.table.SqueezeTable.{SqueezeTable}
use Rattle.squeeze.specs.Squeeze.{Squeeze, Keeps, blank, begin, rest, last_not_above, step_of, squeeze_motion}
use Rattle.squeeze.specs.Held.{squeeze_of}

-- a step that is found is one of those looked at, or the one given for none
last_within : (ss : List Step) (x i none n : ℕ) → none < n → i + length ss ≤ n → last_not_above ss x i none < n
last_within [] x i none n h l = h
last_within (s ∷ ss) x i none n h l =
    last_within ss x (suc i) (cond (nat_le s.begin x) i none) n (cond_both (nat_le s.begin x) i none (λ k. k < n) (λ _. omega arith) (λ _. h)) (omega arith)

pub step_within : (ss : List Step) (x : ℕ) → 1 ≤ length ss → step_of ss x < length ss
step_within ss x h = last_within ss x 0 (length ss - 1) (length ss) (omega arith) (omega arith)

pub squeeze_valid : (t : Squeeze) → Keeps t → Valid (squeeze_motion t)
squeeze_valid t k = record {
  some_pose = k.some_step;
  few_poses = k.few_steps;
  some_action = k.some_turn;
  few_actions = k.few_turns;
  stays = λ p a _ _. step_within t.steps ((rest t.steps p + slice_index t.turns a) % t.ticks) k.some_step;
}

-- the steps in front are those of the whole
pub begin-take : (n : ℕ) (ss : List Step) (i : ℕ) → i < n → begin (take n ss) i ≡ begin ss i
begin-take n ss i h = ap (λ (s : Step). s.begin) (get_or-take n ss i blank h)

pub rest-take : (n : ℕ) (ss : List Step) (i : ℕ) → i < n → rest (take n ss) i ≡ rest ss i
rest-take n ss i h = ap (λ (s : Step). s.rest) (get_or-take n ss i blank h)

pub keeps : (t : SqueezeTable) → Keeps (squeeze_of t)
keeps t = t.keeps
