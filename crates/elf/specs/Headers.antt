-- The header of an image, by the ELF specification's Ehdr. Assumes nothing.
use Rattle.std.specs.Prelude.{ℕ, ◌+◌, ◌*◌, Bool, cond, ◌&&◌, ◌||◌, List, [], ◌∷◌, length, take, Some, None, Option, ◌==◌, nat_le}
use Rattle.std.specs.Str.{bytes_eq}
use Rattle.byte_parts.specs.Fields.{bytes_in, little_endian}
use Rattle.shelf.specs.declared.object.ObjectKind.{ObjectKind}
use Rattle.shelf.specs.declared.object.ObjectKind.TheVariants.{Executable, Dynamic, Other}
use Rattle.elf.specs.declared.header.Header.{Header}
use Rattle.elf.specs.declared.header.SectionTable.{SectionTable}
use Rattle.elf.specs.declared.places.Places.{Places}

-- an address, an offset or a size at a place
abbrev pub word_at : Places → List ℕ → ℕ → ℕ
word_at p xs place = little_endian (bytes_in p.word) xs place

-- the identification: the magic, the class, least significant byte first, the current version
abbrev pub identification : Places → List ℕ
identification p = 127 ∷ 69 ∷ 76 ∷ 70 ∷ p.class ∷ 1 ∷ 1 ∷ []

-- the header is whole, and starts with the identification
abbrev pub is_image : Places → List ℕ → Bool
is_image p xs = nat_le p.header_size (length xs) && bytes_eq (take 7 xs) (identification p)

-- e_type: 2 is ET_EXEC, 3 is ET_DYN
abbrev pub kind_named : ℕ → ObjectKind
kind_named n = cond (n == 2) Executable (cond (n == 3) Dynamic Other)

-- where the section headers are, and how many: none where the place is 0
abbrev pub section_table : Places → List ℕ → SectionTable
section_table p xs = record { place = word_at p xs p.e_shoff; count = cond (word_at p xs p.e_shoff == 0) 0 (little_endian 2 xs p.e_shnum) }

-- they have the size that the class asks for, and lie inside the image; none always do
abbrev pub table_fits : Places → List ℕ → SectionTable → Bool
table_fits p xs t =
    (t.count == 0)
    || (little_endian 2 xs p.e_shentsize == p.section_size && nat_le (t.place + p.section_size * t.count) (length xs))

abbrev pub header_of : Places → List ℕ → Option Header
header_of p xs =
    cond (is_image p xs)
    (cond (table_fits p xs (section_table p xs))
    (Some (record { kind = kind_named (little_endian 2 xs 16); sections = section_table p xs; names = little_endian 2 xs p.e_shstrndx }))
    None)
    None
