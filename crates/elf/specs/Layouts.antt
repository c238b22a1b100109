-- Where the parts of an image lie, and what they say. Assumes nothing.
use Rattle.std.specs.Prelude.{ℕ, ◌-◌, cond, List, [], ◌++◌, map, Some, None, Option, ◌==◌}
use Rattle.std.specs.List.{range_with_len}
use Rattle.std.specs.Option.{option_map}
use Rattle.byte_parts.specs.Spans.{span_of}
use Rattle.byte_parts.specs.declared.span.Span.{Span}
use Rattle.shelf.specs.Files.{LinkModel, ObjectModel}
use Rattle.shelf.specs.Questions.{ask}
use Rattle.shelf.specs.declared.object.Section.{Section}
use Rattle.elf.specs.Headers.{header_of}
use Rattle.elf.specs.Kinds.{same_kind}
use Rattle.elf.specs.Links.{link_place}
use Rattle.elf.specs.Notes.{build_id, notes_of}
use Rattle.elf.specs.Sections.{nth_section, numbered, occupied, sections}
use Rattle.elf.specs.Tables.{listed, symbol_table}
use Rattle.elf.specs.declared.header.Header.{Header}
use Rattle.elf.specs.declared.header.SectionTable.{SectionTable}
use Rattle.elf.specs.declared.layout.Layout.{Layout}
use Rattle.shelf.specs.declared.object.Debuglink.{Debuglink}
use Rattle.shelf.specs.declared.object.Debuglink.TheVariants.{Absent, Malformed, Named}
use Rattle.elf.specs.declared.kind.SectionKind.TheVariants.{PlainSymbols, NoBits, DynamicSymbols}
use Rattle.elf.specs.declared.places.Places.{Places}
use Rattle.elf.specs.declared.section.SectionHeader.{SectionHeader}

-- the names of sections: what the section that e_shstrndx names has, and nothing where that is 0
abbrev pub names_of : Places → List ℕ → Header → Option (List ℕ)
names_of p xs h = cond (h.names == 0) (Some []) (ask (numbered p xs h.sections h.names) (λ s. ask (occupied xs s) (span_of xs)))

-- the first dynamic and the first plain symbols, the debuglink, the build id
abbrev pub laid : Places → List ℕ → Header → List ℕ → Option Layout
laid p xs h names =
    ask (symbol_table p xs h.sections DynamicSymbols) (λ dynamic.
    ask (symbol_table p xs h.sections PlainSymbols) (λ plain.
    Some (record {
      kind = h.kind;
      sections = h.sections;
      dynamic = dynamic;
      plain = plain;
      debuglink = link_place p xs h.sections names;
      build_id = build_id (notes_of xs (sections p xs h.sections));
    })))

-- an image is an object file where its header, the names of its sections and its symbols fit
abbrev pub layout_of : Places → List ℕ → Option Layout
layout_of p xs = ask (header_of p xs) (λ h. ask (names_of p xs h) (laid p xs h))

-- a section with its number; one of the kind NoBits takes no room in the file
abbrev pub section_model : ℕ → SectionHeader → Section
section_model n s =
    record {
      number = n;
      address = record { 0 = s.address };
      offset = cond (same_kind s.kind NoBits) None (Some (record { 0 = s.offset }));
    }

abbrev pub section_models : Places → List ℕ → SectionTable → List Section
section_models p xs t = map (λ n. section_model n (nth_section p xs t n)) (range_with_len 1 (t.count - 1))

abbrev pub named_so : Option (List ℕ) → LinkModel
named_so None = Malformed
named_so (Some name) = Named name

abbrev pub link_model : List ℕ → Debuglink Span → LinkModel
link_model xs Absent = Absent
link_model xs Malformed = Malformed
link_model xs (Named s) = named_so (span_of xs s)

-- what the parts say: dynamic symbols come before the others
abbrev pub object_in : Places → List ℕ → Layout → ObjectModel
object_in p xs l =
    record {
      kind = l.kind;
      symbols = listed p xs l.dynamic ++ listed p xs l.plain;
      sections = section_models p xs l.sections;
      debuglink = link_model xs l.debuglink;
      build_id = ask l.build_id (span_of xs);
    }

-- the object file that an image of a class is, if it is one
abbrev pub image_object : Places → List ℕ → Option ObjectModel
image_object p xs = option_map (object_in p xs) (layout_of p xs)
