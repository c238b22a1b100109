-- The lines of /proc/PID/maps. Assumes nothing.
use Rattle.std.specs.Prelude.{◌≡◌, ℕ, ◌+◌, ◌-◌, ◌<◌, true, cond, List, [], ◌∷◌, ◌++◌, map, length, take, drop, ◌==◌, slice_index}
use Rattle.std.specs.List.{prefix_len, suffix_len, AllByRecursion}
use Rattle.byte_parts.specs.Cut.{cut, glued}
use Rattle.byte_parts.specs.Parts.{PartOf}
use Rattle.byte_parts.specs.Places.{Free}
use Rattle.byte_parts.specs.Words.{white, dark, Only}

-- a line, with its place in the maps
pub record Line : Type 0 where
  pub place : ℕ
  pub bytes : List ℕ

-- pieces with one byte between each two, the first at the place
abbrev pub placed : ℕ → List (List ℕ) → List Line
placed place [] = []
placed place (p ∷ ps) = record { place = place; bytes = p } ∷ placed (place + length p + 1) ps

-- the maps without the white space around them
abbrev pub trimmed : List ℕ → List ℕ
trimmed maps =
    let from : List ℕ = drop (prefix_len white maps) maps in
    take (length from - suffix_len white from) from

abbrev pub cut_lines : ℕ → List ℕ → List Line
cut_lines place text = cond (length text == 0) [] (placed place (cut 10 text))

-- trimmed and cut at line feeds; blank maps have no line
abbrev pub map_lines : List ℕ → List Line
map_lines maps = cut_lines (prefix_len white maps) (trimmed maps)

-- the whole is white space, then the middle, which neither starts nor ends with white space, then white space
pub record Trims (whole middle : List ℕ) : Type 0 where
  pub before : List ℕ
  pub after : List ℕ
  pub shape : whole ≡ before ++ (middle ++ after)
  pub blank_before : Only white before
  pub blank_after : Only white after
  pub first : 0 < length middle → dark (slice_index middle 0) ≡ true
  pub last : 0 < length middle → dark (slice_index middle (length middle - 1)) ≡ true

-- the lines joined by line feeds are the maps without the white space around them, no line has a line feed, and each stands in the maps at its place
pub record LinesOf (maps : List ℕ) (lines : List Line) : Type 0 where
  pub trims : Trims maps (trimmed maps)
  pub joined : glued 10 (map (λ l. l.bytes) lines) ≡ trimmed maps
  pub whole : AllByRecursion (λ l. Free 10 l.bytes) lines
  pub places : AllByRecursion (λ l. PartOf maps l.place l.bytes) lines
