-- The number of each refusal: the one list that every promise refers to.
use Rattle.std.specs.Prelude.{ℕ}
use Rattle.refusals.specs.declared.Refusal.{Refusal}
use Rattle.refusals.specs.declared.Refusal.TheVariants.{NoPose, NoAction, Barred, NoPlan, NoPlace, PlanTooLong, Apart, CannotOrient, CannotEndThere, EndsEarly, BadNumber, WrongKind, OutsideLimit, OutOfOrder, LeftOver, BufferTooShort}

abbrev pub number_of : Refusal → ℕ
number_of NoPose = 1  -- no such pose or node
number_of NoAction = 2  -- no such action or label
number_of Barred = 3  -- the action is barred
number_of NoPlan = 4  -- no plan is held
number_of NoPlace = 5  -- the plan has no such place
number_of PlanTooLong = 6  -- the plan would have more than 16,384 actions
number_of Apart = 7  -- the list leaves two possible poses apart
number_of CannotOrient = 8  -- no list of permitted actions orients the possible poses
number_of CannotEndThere = 9  -- no list of permitted actions ends in that pose
number_of EndsEarly = 10  -- the bytes end early
number_of BadNumber = 11  -- a number of more than five groups, not in its shortest form, or over 32 bits
number_of WrongKind = 12  -- the first byte is not the kind that was asked for
number_of OutsideLimit = 13  -- a value outside its limit
number_of OutOfOrder = 14  -- steps out of order
number_of LeftOver = 15  -- bytes are left over
number_of BufferTooShort = 16  -- the buffer is too short
