use Rattle.std.proofs.Common.{◌≤◌, lit≤}
use Rattle.std.proofs.lemmas.Str.{IsUtf8-from_ascii}
use Rattle.byte_parts.specs.declared.number.Radix.{Radix}
use Rattle.byte_parts.specs.declared.number.Radix.TheVariants.{Decimal, Hexadecimal}
use Rattle.byte_parts.specs.Numbers.{base}
use Rattle.byte_parts.proofs.Numerals.{writes_ascii}
use Rattle.byte_parts.proofs.number.parse_number.Goals as goal

small_base : (r : Radix) → base r ≤ 36
small_base Decimal = lit≤ tt
small_base Hexadecimal = lit≤ tt

pub returns-in_default : goal.returns-in_default
returns-in_default c =
    record { cases = λ n w. c.in_default.ensures.cases.0 (IsUtf8-from_ascii _ (writes_ascii _ _ n (small_base c.args.radix) w)) }
