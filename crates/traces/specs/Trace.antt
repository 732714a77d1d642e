-- The trace of a list of actions from a set of poses: a row for the start and one for each action.
use Rattle.std.specs.Prelude.{◌≡◌, ℕ, zero, suc, ◌+◌, ◌*◌, ◌^◌, ◌≤◌, cond, List, [], ◌++◌, length, take, drop, Some, None, Ok, Err, Option, Result, nat_le, nat_lt, slice_index}
use Rattle.refusals.specs.declared.Refusal.{Refusal}
use Rattle.refusals.specs.declared.Refusal.TheVariants.{NoPose, NoAction, BufferTooShort}
use Rattle.feeders.specs.Motion.{Motion}
use Rattle.feeders.specs.Sets.{all_below}
use Rattle.feeders.specs.Image.{image}
use Rattle.traces.specs.Rows.{row_of}

-- the action that row i names: the one just performed, and none at the start
abbrev pub performed : List ℕ → ℕ → Option ℕ
performed w zero = None
performed w (suc i) = Some (slice_index w i)

-- row i names an action and shows the set of poses after the first i actions
abbrev pub row_at : Motion → ℕ → List ℕ → ℕ → List ℕ
row_at m s w i = row_of (performed w i) (image m s (take i w))

-- the first n rows
abbrev pub rows_to : Motion → ℕ → List ℕ → ℕ → List ℕ
rows_to m s w zero = []
rows_to m s w (suc n) = rows_to m s w n ++ row_at m s w n

-- a row for the start, and one for each action
abbrev pub trace_of : Motion → ℕ → List ℕ → List ℕ
trace_of m s w = rows_to m s w (length w + 1)

-- What should become of the buffer: the trace in front, and the bytes after it as they were.
-- A set with an absent pose is refused first, then a list with an absent action, then a buffer with too little room.
abbrev pub traced : Motion → ℕ → List ℕ → List ℕ → Result (List ℕ) Refusal
traced m s w buffer =
    cond (nat_lt s (2 ^ m.poses))
    (cond (all_below m.actions w)
    (cond (nat_le (12 * (length w + 1)) (length buffer)) (Ok (trace_of m s w ++ drop (12 * (length w + 1)) buffer)) (Err BufferTooShort))
    (Err NoAction))
    (Err NoPose)

-- Where each row of a trace stands.
pub record TraceLaws (m : Motion) (s : ℕ) (w : List ℕ) : Type 0 where
  -- twelve bytes for each row
  pub long : length (trace_of m s w) ≡ 12 * (length w + 1)
  -- row i fills the bytes 12 i to 12 i + 11
  pub rows : (i : ℕ) → i ≤ length w → take 12 (drop (12 * i) (trace_of m s w)) ≡ row_at m s w i
