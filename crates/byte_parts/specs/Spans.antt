-- A stretch of a longer list, by its place and its length. Assumes nothing.
use Rattle.std.specs.Prelude.{ℕ, ◌+◌, ◌*◌, Bool, cond, ◌&&◌, List, [], length, take, drop, Some, None, Option, nat_le}
use Rattle.std.specs.Option.{unwrap_or}
use Rattle.std.specs.Str.{bytes_eq}
use Rattle.byte_parts.specs.declared.span.Span.{Span}

-- the elements from the place on, as many as the length says, if they are all there
abbrev pub stretch : {X : Type 0} → List X → ℕ → ℕ → Option (List X)
stretch xs place len = cond (nat_le (place + len) (length xs)) (Some (take len (drop place xs))) None

abbrev pub span_of : {X : Type 0} → List X → Span → Option (List X)
span_of xs s = stretch xs s.place s.len

-- the same, and nothing where they are not all there
abbrev pub read_of : {X : Type 0} → List X → Span → List X
read_of xs s = unwrap_or (span_of xs s) []

-- the span lies inside what is this long
abbrev pub inside : ℕ → Span → Bool
inside long s = nat_le (s.place + s.len) long

-- row n, from 0, of a table that starts at the place and has rows of this size, if it is all there
abbrev pub row_of : {X : Type 0} → List X → ℕ → ℕ → ℕ → Option (List X)
row_of xs place size n = stretch xs (place + size * n) size

-- the text stands there from the place on
abbrev pub stands : List ℕ → ℕ → List ℕ → Bool
stands xs place text = nat_le (place + length text) (length xs) && bytes_eq (take (length text) (drop place xs)) text
