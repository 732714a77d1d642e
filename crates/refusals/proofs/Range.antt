-- The numbers of refusals have at most two digits.
use Rattle.std.proofs.Common.{◌≤◌, arith}
use Rattle.refusals.specs.Numbers.{number_of}
use Rattle.refusals.specs.declared.Refusal.{Refusal}
use Rattle.refusals.specs.declared.Refusal.TheVariants.{NoPose, NoAction, Barred, NoPlan, NoPlace, PlanTooLong, Apart, CannotOrient, CannotEndThere, EndsEarly, BadNumber, WrongKind, OutsideLimit, OutOfOrder, LeftOver, BufferTooShort}

pub number_of_le : (e : Refusal) → number_of e ≤ 16
number_of_le NoPose = omega arith
number_of_le NoAction = omega arith
number_of_le Barred = omega arith
number_of_le NoPlan = omega arith
number_of_le NoPlace = omega arith
number_of_le PlanTooLong = omega arith
number_of_le Apart = omega arith
number_of_le CannotOrient = omega arith
number_of_le CannotEndThere = omega arith
number_of_le EndsEarly = omega arith
number_of_le BadNumber = omega arith
number_of_le WrongKind = omega arith
number_of_le OutsideLimit = omega arith
number_of_le OutOfOrder = omega arith
number_of_le LeftOver = omega arith
number_of_le BufferTooShort = omega arith
