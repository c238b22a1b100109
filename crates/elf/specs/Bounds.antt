-- That what a layout speaks of lies inside the image. Assumes nothing.
use Rattle.std.specs.Prelude.{◌≡◌, ℕ, ◌+◌, ◌*◌, ◌<◌, ◌≤◌, List, length}
use Rattle.byte_parts.specs.Fields.{strings_end}
use Rattle.elf.specs.Sections.{Inside, span_bytes}
use Rattle.elf.specs.declared.layout.Layout.{Layout}
use Rattle.elf.specs.declared.places.Places.{Places}
use Rattle.elf.specs.declared.symbol.SymbolTable.{SymbolTable}

-- the entries of a table that are listed lie inside, and so do its strings
pub record TableInside (p : Places) (xs : List ℕ) (t : SymbolTable) : Type 0 where
  pub rows : (n : ℕ) → 0 < n → n ≤ t.count → t.place + p.symbol_size * n + p.symbol_size ≤ length xs
  pub strings : t.strings.place + t.strings.len ≤ length xs
  pub names : t.readable ≡ strings_end (span_bytes xs t.strings)

-- so does all that a layout speaks of
pub record LaidInside (p : Places) (xs : List ℕ) (l : Layout) : Type 0 where
  pub sections : Inside p xs l.sections
  pub dynamic : TableInside p xs l.dynamic
  pub plain : TableInside p xs l.plain
