-- What a line is read as. That these are just the requests which it spells is a law (`OneMeaning`).
use Rattle.std.specs.Prelude.{◌≡◌, ℕ, ◌+◌, ◌-◌, ◌*◌, cond, ◌↔◌, List, [], ◌∷◌, length, Some, None, Option, ◌==◌, nat_le}
use Rattle.std.specs.Option.{option_map}
use Rattle.std.specs.Char.{is_ascii_digit}
use Rattle.scripts.specs.Requests.{Spells}
use Rattle.scripts.specs.declared.request.Request.{Request}
use Rattle.scripts.specs.declared.request.Request.TheVariants.{Bar, Allow, Shake, Step, Plan, Add, Cut, Aim, Trace}

-- the number that digits write after those that wrote n; none where a byte is no digit
unfoldable pub read_on : ℕ → List ℕ → Option ℕ
read_on n [] = Some n
read_on n (d ∷ ds) = cond (is_ascii_digit d) (read_on (10 * n + (d - 48)) ds) None

-- the number that one to five digits write
unfoldable pub number_in : List ℕ → Option ℕ
number_in ds = cond (nat_le 1 (length ds)) (cond (nat_le (length ds) 5) (read_on 0 ds) None) None

-- the request, where no number is there
abbrev pub alone : Option ℕ → Request → Option Request
alone None r = Some r
alone (Some n) r = None

-- the request that a letter makes, with a number or alone
abbrev pub request_by : ℕ → Option ℕ → Option Request
request_by c n =
    cond (c == 66) (option_map Bar n)
    (cond (c == 65) (option_map Allow n)
    (cond (c == 75) (alone n Shake)
    (cond (c == 83) (option_map Step n)
    (cond (c == 80) (alone n Plan)
    (cond (c == 68) (option_map Add n)
    (cond (c == 67) (option_map Cut n)
    (cond (c == 77) (option_map Aim n)
    (cond (c == 84) (alone n Trace) None))))))))

-- the same where a number has to be there
abbrev pub request_with : ℕ → Option ℕ → Option Request
request_with c None = None
request_with c (Some n) = request_by c (Some n)

-- the request of a line: a letter alone, or a letter, one blank and a number
abbrev pub request_of : List ℕ → Option Request
request_of [] = None
request_of (c ∷ []) = request_by c None
request_of (c ∷ (b ∷ ds)) = cond (b == 32) (request_with c (number_in ds)) None

-- A line is read as a request exactly when it spells it.
abbrev pub OneMeaning : Type 0
OneMeaning = (line : List ℕ) (r : Request) → (request_of line ≡ Some r) ↔ Spells line r
