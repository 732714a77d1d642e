-- A number below 100, padded with zeros to two digits.
use Rattle.std.proofs.Common.{◌≡◌, ℕ, ◌+◌, ◌-◌, ◌/◌, ◌%◌, ◌^◌, ◌<◌, ◌≤◌, false, [], ◌∷◌, ◌++◌, decimal, arith, inl, inr}
use Rattle.std.specs.Fmt.{padded_integral, format_spec, char_count}
use Rattle.std.proofs.lemmas.Fmt.{decimal_digit, decimal_step}
use Rattle.std.proofs.lemmas.Bool.{cases_lt}
use Rattle.refusals.specs.Printed.{two_digits}

pub two_padded : (n : ℕ) → n < 100 → padded_integral (format_spec 32 0 4 2 (2 ^ 64 - 1)) false [] (decimal n) ≡ two_digits n
unfolding padded_integral char_count
two_padded n small = elim (cases_lt n 10) [
  | inl one ↦ let high : n / 10 ≡ 0 = omega (arith, one) in let low : n % 10 ≡ n = omega (arith, one) in rw (decimal_digit n one, high, low)
  | inr two ↦ let high : n / 10 < 10 = omega (arith, small) in rw (decimal_step n two (omega (arith, small)), decimal_digit (n / 10) high)
]
