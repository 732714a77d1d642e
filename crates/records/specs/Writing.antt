-- What a buffer should hold after a plan's record is written to its front, or why the write is refused.
use Rattle.std.specs.Prelude.{ℕ, cond, List, ◌++◌, length, drop, Ok, Err, Result, nat_le}
use Rattle.refusals.specs.declared.Refusal.{Refusal}
use Rattle.refusals.specs.declared.Refusal.TheVariants.{BufferTooShort, OutsideLimit, PlanTooLong}
use Rattle.records.specs.Contents.{Contents, fits}
use Rattle.records.specs.Format.{spell}

-- A value outside its limit is refused first, then a plan of more than 16,384 actions, then a buffer too short for the record.
-- The bytes after the record stay.
abbrev pub written : Contents → List ℕ → Result (List ℕ) Refusal
written c buffer =
    cond (fits c)
    (cond (nat_le (length c.list) 16384)
    (cond (nat_le (length (spell c)) (length buffer)) (Ok (spell c ++ drop (length (spell c)) buffer)) (Err BufferTooShort))
    (Err PlanTooLong))
    (Err OutsideLimit)
