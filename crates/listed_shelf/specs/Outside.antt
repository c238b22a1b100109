-- Which row of a listed shelf points outside. Assumes nothing.
use Rattle.std.specs.Prelude.{ℕ, ◌+◌, Bool, true, not, ◌&&◌, length, Some, None, Option}
use Rattle.std.specs.Option.{option_map, option_or}
use Rattle.std.specs.List.{position}
use Rattle.byte_parts.specs.Spans.{inside}
use Rattle.byte_parts.specs.declared.span.Span.{Span}
use Rattle.shelf.specs.declared.object.Debuglink.{Debuglink}
use Rattle.shelf.specs.declared.object.Debuglink.TheVariants.{Absent, Malformed, Named}
use Rattle.listed_shelf.specs.declared.extent.Extent.{Extent}
use Rattle.listed_shelf.specs.declared.rows.FileRow.{FileRow}
use Rattle.listed_shelf.specs.declared.rows.Listing.{Listing}
use Rattle.listed_shelf.specs.declared.rows.ObjectRow.{ObjectRow}
use Rattle.listed_shelf.specs.declared.rows.SymbolRow.{SymbolRow}

-- the span, if there is one, lies inside what is this long
abbrev pub optional_inside : ℕ → Option Span → Bool
optional_inside long None = true
optional_inside long (Some s) = inside long s

-- so does the name in a debug link, if there is one
abbrev pub link_inside : ℕ → Debuglink Span → Bool
link_inside long Absent = true
link_inside long Malformed = true
link_inside long (Named s) = inside long s

-- each span of an object file is inside
abbrev pub object_inside : Extent → ObjectRow → Bool
object_inside e o =
    inside e.symbols o.symbols
    && inside e.sections o.sections
    && link_inside e.text o.debuglink
    && optional_inside e.text o.build_id

-- so is each span of the object file, if there is one
abbrev pub all_inside : Extent → Option ObjectRow → Bool
all_inside e None = true
all_inside e (Some o) = object_inside e o

-- a file row points outside
abbrev pub file_outside : Extent → FileRow → Bool
file_outside e f = not (inside e.text f.path && all_inside e f.object)

-- a symbol row points outside
abbrev pub symbol_outside : Extent → SymbolRow → Bool
symbol_outside e s = not (optional_inside e.text s.name)

-- how far spans may reach
abbrev pub extent_of : Listing → Extent
extent_of l = record { symbols = length l.symbols.now; sections = length l.sections.now; text = length l.text.now }

-- the first row that points outside, counted over the files, then the symbols; a section holds numbers alone
abbrev pub first_outside : Listing → Option ℕ
first_outside l =
    option_or (position (file_outside (extent_of l)) l.files.now) (option_map (λ i. length l.files.now + i) (position (symbol_outside (extent_of l)) l.symbols.now))
