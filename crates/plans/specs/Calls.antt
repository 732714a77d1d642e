-- What each call that changes a plan should leave in it, or why it is refused.
use Rattle.std.specs.Prelude.{ℕ, ◌+◌, cond, List, [], ◌∷◌, ◌++◌, length, take, drop, Ok, Err, Result, nat_le, nat_lt}
use Rattle.refusals.specs.declared.Refusal.{Refusal}
use Rattle.refusals.specs.declared.Refusal.TheVariants.{NoPlace, PlanTooLong}

-- A plan has at most 16,384 actions.
abbrev pub put : List ℕ → Result (List ℕ) Refusal
put xs = cond (nat_le (length xs) 16384) (Ok xs) (Err PlanTooLong)

abbrev pub pushed : List ℕ → ℕ → Result (List ℕ) Refusal
pushed xs a = put (xs ++ (a ∷ []))

abbrev pub appended : List ℕ → List ℕ → Result (List ℕ) Refusal
appended xs ys = put (xs ++ ys)

-- Places are counted from 0.
abbrev pub without : List ℕ → ℕ → Result (List ℕ) Refusal
without xs n = cond (nat_lt n (length xs)) (Ok (take n xs ++ drop (n + 1) xs)) (Err NoPlace)
