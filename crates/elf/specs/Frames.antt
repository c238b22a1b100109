-- Which bytes an image is read by: all others may change, and it means the same. Assumes nothing.
use Rattle.std.specs.Prelude.{◌≡◌, ℕ, ◌*◌, ◌<◌, true, ◌⊎◌, List, length, take, drop, Some}
use Rattle.byte_parts.specs.Fields.{bytes_in}
use Rattle.byte_parts.specs.declared.span.Span.{Span}
use Rattle.elf.specs.Headers.{header_of}
use Rattle.elf.specs.Layouts.{image_object, names_of}
use Rattle.elf.specs.Links.{is_debuglink}
use Rattle.elf.specs.Sections.{nth_section, occupied}
use Rattle.elf.specs.declared.header.Header.{Header}
use Rattle.elf.specs.declared.kind.SectionKind.TheVariants.{PlainSymbols, Notes, DynamicSymbols}
use Rattle.elf.specs.declared.places.Places.{Places}

-- the section with this number has symbols, plain or dynamic ones
abbrev pub HasSymbols : Places → List ℕ → Header → ℕ → Type 0
HasSymbols p xs h n = ((nth_section p xs h.sections n).kind ≡ PlainSymbols) ⊎ ((nth_section p xs h.sections n).kind ≡ DynamicSymbols)

-- the numbers of the sections whose bytes are read: names of sections, symbols, the strings that those link to, notes, and the debuglink
pub data ReadSection (p : Places) (xs : List ℕ) (h : Header) : ℕ → Type 0 where
  names : ReadSection p xs h h.names
  symbols : (n : ℕ) → HasSymbols p xs h n → ReadSection p xs h n
  strings : (n : ℕ) → 0 < n → n < h.sections.count → HasSymbols p xs h n → ReadSection p xs h (nth_section p xs h.sections n).link
  notes : (n : ℕ) → (nth_section p xs h.sections n).kind ≡ Notes → ReadSection p xs h n
  debuglink : (n : ℕ) (called : List ℕ) → names_of p xs h ≡ Some called → is_debuglink called (nth_section p xs h.sections n) ≡ true → ReadSection p xs h n

-- the stretches of an image that are read, by place and length: the identification, e_type, four fields of the header, the section headers, and sections
pub data Reads (p : Places) (xs : List ℕ) : ℕ → ℕ → Type 0 where
  identification : Reads p xs 0 7
  e_type : Reads p xs 16 2
  e_shoff : Reads p xs p.e_shoff (bytes_in p.word)
  e_shentsize : Reads p xs p.e_shentsize 2
  e_shnum : Reads p xs p.e_shnum 2
  e_shstrndx : Reads p xs p.e_shstrndx 2
  headers : (h : Header) → header_of p xs ≡ Some h → Reads p xs h.sections.place (p.section_size * h.sections.count)
  section : (h : Header) (n : ℕ) (e : Span) → header_of p xs ≡ Some h → 0 < n → n < h.sections.count → ReadSection p xs h n → occupied xs (nth_section p xs h.sections n) ≡ Some e → Reads p xs e.place e.len

-- the same bytes stand in both from the place on
abbrev pub SamePart : List ℕ → List ℕ → ℕ → ℕ → Type 0
SamePart xs ys place len = take len (drop place ys) ≡ take len (drop place xs)

-- as long as the image, with the same bytes wherever the image is read
pub record Alike (p : Places) (xs ys : List ℕ) : Type 0 where
  pub long : length ys ≡ length xs
  pub parts : (place len : ℕ) → Reads p xs place len → SamePart xs ys place len

-- no other byte changes what an image means
abbrev pub OnlyParts : Places → List ℕ → Type 0
OnlyParts p xs = (ys : List ℕ) → Alike p xs ys → image_object p ys ≡ image_object p xs
