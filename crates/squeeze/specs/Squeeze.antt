-- A squeeze table: the half turn has T ticks, cut into steps. Step i begins at b(i) and rests at s(i).
-- A turn by some ticks and a squeeze bring a part from the rest of one step into the step where the turn lands.
use Rattle.std.specs.Prelude.{◌≡◌, ℕ, suc, ◌+◌, ◌-◌, ◌%◌, ◌<◌, ◌≤◌, cond, ◌⊎◌, List, [], ◌∷◌, length, nat_le, slice_index, slice_index_or}
use Rattle.std.specs.Coded.{le_prop}
use Rattle.feeders.specs.Motion.{Motion}
use Rattle.squeeze.specs.declared.step.Step.{Step}

pub record Squeeze : Type 0 where
  pub ticks : ℕ
  pub steps : List Step
  pub turns : List ℕ

abbrev pub blank : Step
blank = record { begin = 0; rest = 0 }

-- where step i begins, and where it rests
abbrev pub begin : List Step → ℕ → ℕ
begin ss i = (slice_index_or ss i blank).begin

abbrev pub rest : List Step → ℕ → ℕ
rest ss i = (slice_index_or ss i blank).rest

-- The rule of a squeeze table. The steps follow one another: b(i) ≤ s(i) < b(i + 1), and the last rests below T + b(0).
pub record Keeps (t : Squeeze) : Type 0 where
  pub some_ticks : 2 ≤ t.ticks
  pub few_ticks : t.ticks ≤ 36000
  pub some_step : 1 ≤ length t.steps
  pub few_steps : length t.steps ≤ 32
  pub some_turn : 1 ≤ length t.turns
  pub few_turns : length t.turns ≤ 32
  pub begins : (i : ℕ) → i < length t.steps → begin t.steps i < t.ticks
  pub rests : (i : ℕ) → i < length t.steps → begin t.steps i ≤ rest t.steps i
  pub rises : (i : ℕ) → suc i < length t.steps → rest t.steps i < begin t.steps (suc i)
  pub last : rest t.steps (length t.steps - 1) < t.ticks + begin t.steps 0
  pub turns : (j : ℕ) → j < length t.turns → slice_index t.turns j < t.ticks

-- a table keeps the rule in one way
pub keeps-once : (t : Squeeze) → IsProp (Keeps t)
keeps-once t p q = λ i. record {
  some_ticks = le_prop p.some_ticks q.some_ticks i;
  few_ticks = le_prop p.few_ticks q.few_ticks i;
  some_step = le_prop p.some_step q.some_step i;
  few_steps = le_prop p.few_steps q.few_steps i;
  some_turn = le_prop p.some_turn q.some_turn i;
  few_turns = le_prop p.few_turns q.few_turns i;
  begins = λ j h. le_prop (p.begins j h) (q.begins j h) i;
  rests = λ j h. le_prop (p.rests j h) (q.rests j h) i;
  rises = λ j h. le_prop (p.rises j h) (q.rises j h) i;
  last = le_prop p.last q.last i;
  turns = λ j h. le_prop (p.turns j h) (q.turns j h) i;
}

-- Angle x belongs to step i: it has the greatest beginning that is not above x; below the first beginning it is the last step.
-- So an angle on the very edge of a step belongs to the step that begins there.
pub record StepOf (ss : List Step) (x i : ℕ) : Type 0 where
  pub there : i < length ss
  pub covers : ((begin ss i ≤ x) × ((j : ℕ) → j < length ss → begin ss j ≤ x → begin ss j ≤ begin ss i)) ⊎ ((x < begin ss 0) × (suc i ≡ length ss))

-- the last of the steps, counted from i on, that does not begin above x; `none` where all do
abbrev pub last_not_above : List Step → ℕ → ℕ → ℕ → ℕ
last_not_above [] x i none = none
last_not_above (s ∷ ss) x i none = last_not_above ss x (suc i) (cond (nat_le s.begin x) i none)

-- the step of angle x: the one that StepOf describes
abbrev pub step_of : List Step → ℕ → ℕ
step_of ss x = last_not_above ss x 0 (length ss - 1)

-- Action j turns by the j-th turn and squeezes: step i goes to the step of (s(i) + r(j)) modulo T.
abbrev pub squeeze_motion : Squeeze → Motion
squeeze_motion t =
    record { poses = length t.steps; actions = length t.turns; next = λ i j. step_of t.steps ((rest t.steps i + slice_index t.turns j) % t.ticks) }
