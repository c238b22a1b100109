-- The debuglink, by GDB's document on debugging information in separate files. Assumes nothing.
use Rattle.std.specs.Prelude.{ℕ, ◌+◌, Bool, cond, List, [], ◌∷◌, ◌++◌, length, Some, None, codes, Option, nat_le}
use Rattle.byte_parts.specs.Fields.{string_in}
use Rattle.std.specs.List.{find}
use Rattle.byte_parts.specs.Spans.{stands}
use Rattle.byte_parts.specs.declared.span.Span.{Span}
use Rattle.elf.specs.Notes.{padding}
use Rattle.elf.specs.Sections.{occupied, sections, span_bytes}
use Rattle.elf.specs.declared.header.SectionTable.{SectionTable}
use Rattle.shelf.specs.declared.object.Debuglink.{Debuglink}
use Rattle.shelf.specs.declared.object.Debuglink.TheVariants.{Absent, Malformed, Named}
use Rattle.elf.specs.declared.places.Places.{Places}
use Rattle.elf.specs.declared.section.SectionHeader.{SectionHeader}

-- the section is called .gnu_debuglink: these bytes and a zero byte stand at its place among the names
abbrev pub is_debuglink : List ℕ → SectionHeader → Bool
is_debuglink names s = stands names s.name (codes ".gnu_debuglink" ++ (0 ∷ []))

-- the section starts with a name, a zero byte, padding to 4, and a checksum of four bytes
abbrev pub link_named : Span → Option (List ℕ) → Debuglink Span
link_named e None = Malformed
link_named e (Some name) = cond (nat_le (padding (length name + 1) + 4) e.len) (Named (record { place = e.place; len = length name })) Malformed

abbrev pub link_of : List ℕ → Option Span → Debuglink Span
link_of xs None = Malformed
link_of xs (Some e) = link_named e (string_in (span_bytes xs e) 0)

abbrev pub link_found : List ℕ → Option SectionHeader → Debuglink Span
link_found xs None = Absent
link_found xs (Some s) = link_of xs (occupied xs s)

-- what the first such section says
abbrev pub link_place : Places → List ℕ → SectionTable → List ℕ → Debuglink Span
link_place p xs t names = link_found xs (find (is_debuglink names) (sections p xs t))

-- the name where a section has a debuglink, else a malformed one
abbrev pub or_malformed : Option Span → Debuglink Span
or_malformed None = Malformed
or_malformed (Some e) = Named e
