-- What the rows of a listed shelf mean. A row that points outside is on no shelf, so what is read for it is free. Assumes nothing.
use Rattle.std.specs.Prelude.{ℕ, cond, List, [], map, is_some}
use Rattle.std.specs.Option.{option_map}
use Rattle.byte_parts.specs.Spans.{read_of}
use Rattle.byte_parts.specs.declared.span.Span.{Span}
use Rattle.shelf.specs.Files.{FileModel, LinkModel, ObjectModel, SymbolModel}
use Rattle.shelf.specs.declared.object.Debuglink.{Debuglink}
use Rattle.shelf.specs.declared.object.Debuglink.TheVariants.{Absent, Malformed, Named}
use Rattle.listed_shelf.specs.declared.rows.FileRow.{FileRow}
use Rattle.listed_shelf.specs.declared.rows.Listing.{Listing}
use Rattle.listed_shelf.specs.declared.rows.ObjectRow.{ObjectRow}
use Rattle.listed_shelf.specs.declared.rows.SymbolRow.{SymbolRow}
use Rattle.listed_shelf.specs.Outside.{first_outside}

-- a symbol by its row
abbrev pub symbol_model : List ℕ → SymbolRow → SymbolModel
symbol_model text s = record { name = option_map (read_of text) s.name; symbol = s.symbol }

-- what an object file says of the file that has its debug symbols, by its row
abbrev pub link_model : List ℕ → Debuglink Span → LinkModel
link_model text Absent = Absent
link_model text Malformed = Malformed
link_model text (Named s) = Named (read_of text s)

-- an object file by its row
abbrev pub object_model : Listing → ObjectRow → ObjectModel
object_model l o =
    record {
      kind = o.kind;
      symbols = map (symbol_model l.text.now) (read_of l.symbols.now o.symbols);
      sections = read_of l.sections.now o.sections;
      debuglink = link_model l.text.now o.debuglink;
      build_id = option_map (read_of l.text.now) o.build_id;
    }

-- a file by its row
abbrev pub file_model : Listing → FileRow → FileModel
file_model l f = record { path = read_of l.text.now f.path; object = option_map (object_model l) f.object }

-- the files that the rows list, or none where a row points outside
abbrev pub listed : Listing → List FileModel
listed l = cond (is_some (first_outside l)) [] (map (file_model l) l.files.now)
