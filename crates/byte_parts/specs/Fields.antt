-- Fields of a table in memory. Assumes nothing.
use Rattle.std.specs.Prelude.{◌≡◌, ℕ, zero, suc, ◌+◌, ◌*◌, ◌<◌, ◌≤◌, cond, List, [], ◌∷◌, ◌++◌, drop, Some, None, Option, ◌==◌, nat_lt, slice_index}
use Rattle.std.specs.Option.{option_map}
use Rattle.byte_parts.specs.Places.{Free}
use Rattle.byte_parts.specs.declared.fields.Width.{Width}
use Rattle.byte_parts.specs.declared.fields.Width.TheVariants.{Four, Eight}

-- the number in n bytes from place + i on, the least significant first
abbrev pub little_endian_from : ℕ → List ℕ → ℕ → ℕ → ℕ
little_endian_from zero xs place i = 0
little_endian_from (suc n) xs place i = slice_index xs (place + i) + 256 * little_endian_from n xs place (1 + i)

abbrev pub little_endian : ℕ → List ℕ → ℕ → ℕ
little_endian n xs place = little_endian_from n xs place 0

-- from the place on stands s, then a zero byte, the first one
pub record StringAt (xs : List ℕ) (place : ℕ) (s : List ℕ) : Type 0 where
  pub rest : List ℕ
  pub shape : drop place xs ≡ s ++ (0 ∷ rest)
  pub free : Free 0 s

-- a string can be read at each place before the end, and at none from the end on
pub record StringsEnd (xs : List ℕ) (end : ℕ) : Type 0 where
  pub before : (place : ℕ) → place < end → (s : List ℕ) × StringAt xs place s
  pub past : (place : ℕ) (s : List ℕ) → end ≤ place → StringAt xs place s → ⊥

-- one past the last zero byte, or 0 where there is none
abbrev pub strings_end : List ℕ → ℕ
strings_end [] = 0
strings_end (x ∷ xs) = cond (nat_lt 0 (strings_end xs)) (1 + strings_end xs) (cond (x == 0) 1 0)

abbrev pub bytes_in : Width → ℕ
bytes_in Four = 4
bytes_in Eight = 8

-- what stands before the first zero byte, if there is one
abbrev pub before_zero : List ℕ → Option (List ℕ)
before_zero [] = None
before_zero (x ∷ xs) = cond (x == 0) (Some []) (option_map (λ s. x ∷ s) (before_zero xs))

-- the zero-terminated string at a place, if there is one
abbrev pub string_in : List ℕ → ℕ → Option (List ℕ)
string_in xs place = before_zero (drop place xs)
