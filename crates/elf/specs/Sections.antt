-- The headers of sections, by the ELF specification's Shdr. Assumes nothing.
use Rattle.std.specs.Prelude.{ℕ, ◌+◌, ◌-◌, ◌*◌, ◌<◌, ◌≤◌, cond, ◌&&◌, List, map, length, take, drop, Some, None, Option, nat_le, nat_lt}
use Rattle.std.specs.List.{range_with_len}
use Rattle.std.specs.Option.{option_map}
use Rattle.byte_parts.specs.Fields.{little_endian}
use Rattle.byte_parts.specs.Spans.{row_of}
use Rattle.byte_parts.specs.declared.span.Span.{Span}
use Rattle.elf.specs.Headers.{word_at}
use Rattle.elf.specs.Kinds.{kind_of, same_kind}
use Rattle.elf.specs.declared.kind.SectionKind.TheVariants.{NoBits}
use Rattle.elf.specs.declared.header.SectionTable.{SectionTable}
use Rattle.elf.specs.declared.places.Places.{Places}
use Rattle.elf.specs.declared.section.SectionHeader.{SectionHeader}

-- what a row of the table says
abbrev pub section_in : Places → List ℕ → SectionHeader
section_in p row =
    record {
      name = little_endian 4 row 0;
      kind = kind_of (little_endian 4 row 4);
      address = word_at p row p.sh_addr;
      offset = word_at p row p.sh_offset;
      size = word_at p row p.sh_size;
      link = little_endian 4 row p.sh_link;
      entry_size = word_at p row p.sh_entsize;
    }

-- row n of a table that starts at the place and has rows of this size
abbrev pub table_row : List ℕ → ℕ → ℕ → ℕ → List ℕ
table_row xs place size n = take size (drop (place + size * n) xs)

-- the section with this number; number 0 is SHN_UNDEF, and no section's
abbrev pub numbered : Places → List ℕ → SectionTable → ℕ → Option SectionHeader
numbered p xs t n = cond (nat_lt 0 n && nat_lt n t.count) (option_map (section_in p) (row_of xs t.place p.section_size n)) None

-- what row n says, where the table is inside the image
abbrev pub nth_section : Places → List ℕ → SectionTable → ℕ → SectionHeader
nth_section p xs t n = section_in p (table_row xs t.place p.section_size n)

-- the sections of an image in order, from number 1
abbrev pub sections : Places → List ℕ → SectionTable → List SectionHeader
sections p xs t = map (nth_section p xs t) (range_with_len 1 (t.count - 1))

-- where the bytes of a section lie, if they are inside the image; one of the kind NoBits takes no room in the file
abbrev pub occupied : List ℕ → SectionHeader → Option Span
occupied xs s =
    cond (same_kind s.kind NoBits) (Some (record { place = 0; len = 0 }))
    (cond (nat_le (s.offset + s.size) (length xs)) (Some (record { place = s.offset; len = s.size })) None)

-- the bytes of a span
abbrev pub span_bytes : List ℕ → Span → List ℕ
span_bytes xs s = take s.len (drop s.place xs)

-- each row of the table lies inside the image
abbrev pub Inside : Places → List ℕ → SectionTable → Type 0
Inside p xs t = (n : ℕ) → n < t.count → t.place + p.section_size * n + p.section_size ≤ length xs
