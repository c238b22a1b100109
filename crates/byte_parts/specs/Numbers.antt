-- Numbers written as text. Assumes nothing.
use Rattle.std.specs.Prelude.{◌≡◌, ℕ, ◌^◌, ◌<◌, List}
use Rattle.std.specs.Str.Parse.{IsNumeral, digits_value, without_leading_plus}
use Rattle.byte_parts.specs.declared.number.Radix.{Radix}
use Rattle.byte_parts.specs.declared.number.Radix.TheVariants.{Decimal, Hexadecimal}

abbrev pub base : Radix → ℕ
base Decimal = 10
base Hexadecimal = 16

-- the text writes n: perhaps one plus sign, then one digit of the radix or more, and n fits 64 bits
pub record Writes (radix : ℕ) (text : List ℕ) (n : ℕ) : Type 0 where
  pub digits : IsNumeral radix (without_leading_plus text)
  pub number : n ≡ digits_value radix (without_leading_plus text)
  pub fits : n < 2 ^ 64
