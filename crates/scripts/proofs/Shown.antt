-- The fields of an answer: letters are ASCII, and numbers have at most two digits.
use Rattle.std.proofs.Common.{◌≡◌, ◌<◌, ◌≤◌, [], ◌∷◌, Some, None, Option, arith}
use lib.Utf8.{encode}
use Rattle.std.proofs.lemmas.Str.Ascii.{encode_ascii}
use Rattle.refusals.proofs.Range.{number_of_le}
use Rattle.refusals.specs.declared.Refusal.{Refusal}
use Rattle.refusals.specs.declared.Refusal.TheVariants.{OutsideLimit}
use Rattle.scripts.specs.Lines.{shown_letter, shown_number}
use Rattle.scripts.specs.Requests.{letter_of}
use Rattle.scripts.specs.declared.request.Request.{Request}
use Rattle.scripts.specs.declared.request.Request.TheVariants.{Bar, Allow, Shake, Step, Plan, Add, Cut, Aim, Trace}

-- ---- the fields

letter_of_lt : (r : Request) → letter_of r < 128
letter_of_lt (Bar n) = omega arith
letter_of_lt (Allow n) = omega arith
letter_of_lt Shake = omega arith
letter_of_lt (Step n) = omega arith
letter_of_lt Plan = omega arith
letter_of_lt (Add n) = omega arith
letter_of_lt (Cut n) = omega arith
letter_of_lt (Aim n) = omega arith
letter_of_lt Trace = omega arith

pub encode-shown_letter : (q : Option Request) → encode (shown_letter q) ≡ shown_letter q ∷ []
encode-shown_letter None = encode_ascii 63 (omega arith)
encode-shown_letter (Some r) = encode_ascii (letter_of r) (letter_of_lt r)

pub shown_number_le : (q : Option Request) (e : Option Refusal) → shown_number q e ≤ 16
shown_number_le None e = number_of_le OutsideLimit
shown_number_le (Some r) None = omega arith
shown_number_le (Some r) (Some e) = number_of_le e
