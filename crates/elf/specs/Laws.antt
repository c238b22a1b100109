-- What the definitions of an image come to, in the words of the ELF specification. Assumes nothing.
use Rattle.std.specs.Prelude.{◌≡◌, ℕ, ◌+◌, ◌*◌, ◌<◌, ◌⊎◌, List, length, Some, None, Option, ◌≢◌}
use Rattle.std.specs.List.{slice_get}
use Rattle.byte_parts.specs.Fields.{StringAt, little_endian}
use Rattle.byte_parts.specs.Parts.{PartOf}
use Rattle.shelf.specs.Files.{SymbolModel}
use Rattle.elf.specs.Layouts.{object_in}
use Rattle.elf.specs.Sections.{nth_section, occupied, span_bytes}
use Rattle.elf.specs.Symbols.{symbol_in}
use Rattle.elf.specs.declared.header.SectionTable.{SectionTable}
use Rattle.elf.specs.declared.layout.Layout.{Layout}
use Rattle.elf.specs.declared.kind.SectionKind.{SectionKind}
use Rattle.elf.specs.declared.kind.SectionKind.TheVariants.{PlainSymbols, DynamicSymbols}
use Rattle.elf.specs.declared.places.Places.{Places}
use Rattle.elf.specs.declared.symbol.SymbolTable.{SymbolTable}

-- a name is what stands in the strings from a place to the first zero byte; where no zero byte follows there is none
abbrev pub NameAt : List ℕ → ℕ → Option (List ℕ) → Type 0
NameAt strings place None = (s : List ℕ) → StringAt strings place s → ⊥
NameAt strings place (Some s) = StringAt strings place s

-- a symbol is what entry n of a table says: all of the entry stands in the image, n rows after the table's start
pub record FromEntry (p : Places) (xs : List ℕ) (t : SymbolTable) (n : ℕ) (s : SymbolModel) : Type 0 where
  pub entry : List ℕ
  pub stands : PartOf xs (t.place + p.symbol_size * n) entry
  pub whole : length entry ≡ p.symbol_size
  pub name : NameAt (span_bytes xs t.strings) (little_endian 4 entry 0) s.name
  pub symbol : s.symbol ≡ symbol_in p entry

-- the symbols are those of the entries but entry 0, in the order of the tables, the dynamic ones first
pub record ListsEntries (p : Places) (xs : List ℕ) (l : Layout) (symbols : List SymbolModel) : Type 0 where
  pub count : length symbols ≡ l.dynamic.count + l.plain.count
  pub dynamic : (i : ℕ) (s : SymbolModel) → i < l.dynamic.count → slice_get symbols i ≡ Some s → FromEntry p xs l.dynamic (i + 1) s
  pub plain : (i : ℕ) (s : SymbolModel) → i < l.plain.count → slice_get symbols (l.dynamic.count + i) ≡ Some s → FromEntry p xs l.plain (i + 1) s

-- the sections with these numbers, from 1, are not of the kind
abbrev pub NoneOf : Places → List ℕ → SectionTable → SectionKind → ℕ → Type 0
NoneOf p xs sections kind below = (m : ℕ) → 0 < m → m < below → (nth_section p xs sections m).kind ≢ kind

-- a table lies in the first section of its kind: it has the entries that the section has room for, all of them whole, and the strings of the section that it links to
pub record InSection (p : Places) (xs : List ℕ) (sections : SectionTable) (kind : SectionKind) (t : SymbolTable) : Type 0 where
  pub number : ℕ
  pub some : 0 < number
  pub within : number < sections.count
  pub here : (nth_section p xs sections number).kind ≡ kind
  pub first : NoneOf p xs sections kind number
  pub starts : Some (record { place = t.place; len = (nth_section p xs sections number).size }) ≡ occupied xs (nth_section p xs sections number)
  pub entries : (t.count ≡ 0) ⊎ ((nth_section p xs sections number).size ≡ p.symbol_size * (t.count + 1))
  pub linked : Some t.strings ≡ occupied xs (nth_section p xs sections (nth_section p xs sections number).link)

-- where there is no section of the kind there are no symbols
abbrev pub FirstTable : Places → List ℕ → SectionTable → SectionKind → SymbolTable → Type 0
FirstTable p xs sections kind t = (NoneOf p xs sections kind sections.count × (t.count ≡ 0)) ⊎ InSection p xs sections kind t

-- the laws of a layout
pub record LaysOut (p : Places) (xs : List ℕ) (l : Layout) : Type 0 where
  pub dynamic : FirstTable p xs l.sections DynamicSymbols l.dynamic
  pub plain : FirstTable p xs l.sections PlainSymbols l.plain
  pub symbols : ListsEntries p xs l (object_in p xs l).symbols
