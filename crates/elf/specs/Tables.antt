-- Symbol tables, by the ELF specification's sections of the types SHT_SYMTAB and SHT_DYNSYM. Assumes nothing.
use Rattle.std.specs.Prelude.{ℕ, ◌-◌, ◌/◌, ◌%◌, Bool, cond, ◌&&◌, List, map, Some, None, Option, ◌==◌, nat_lt}
use Rattle.std.specs.List.{find, range_with_len}
use Rattle.byte_parts.specs.Fields.{strings_end}
use Rattle.shelf.specs.Files.{SymbolModel}
use Rattle.shelf.specs.Questions.{ask}
use Rattle.elf.specs.Kinds.{same_kind}
use Rattle.elf.specs.Sections.{numbered, occupied, sections, span_bytes, table_row}
use Rattle.elf.specs.Symbols.{symbol_model}
use Rattle.elf.specs.declared.header.SectionTable.{SectionTable}
use Rattle.elf.specs.declared.kind.SectionKind.{SectionKind}
use Rattle.elf.specs.declared.places.Places.{Places}
use Rattle.elf.specs.declared.section.SectionHeader.{SectionHeader}
use Rattle.elf.specs.declared.symbol.SymbolTable.{SymbolTable}

-- the entries have the size of the class, and only whole ones are there
abbrev pub whole_entries : Places → SectionHeader → Bool
whole_entries p s = s.entry_size == p.symbol_size && (nat_lt 0 p.symbol_size && s.size % p.symbol_size == 0)

-- the table in a section: it fits, and so do the strings in the section that sh_link names
abbrev pub table_from : Places → List ℕ → SectionTable → SectionHeader → Option SymbolTable
table_from p xs t s =
    cond (whole_entries p s)
    (ask (occupied xs s) (λ entries.
    ask (numbered p xs t s.link) (λ linked.
    ask (occupied xs linked) (λ strings.
    Some (record { place = entries.place; count = entries.len / p.symbol_size - 1; strings = strings; readable = strings_end (span_bytes xs strings) })))))
    None

abbrev pub no_symbols : SymbolTable
no_symbols = record { place = 0; count = 0; strings = record { place = 0; len = 0 }; readable = 0 }

abbrev pub table_of : Places → List ℕ → SectionTable → Option SectionHeader → Option SymbolTable
table_of p xs t None = Some no_symbols
table_of p xs t (Some s) = table_from p xs t s

-- the first table of a kind; none where it does not fit
abbrev pub symbol_table : Places → List ℕ → SectionTable → SectionKind → Option SymbolTable
symbol_table p xs t kind = table_of p xs t (find (λ s. same_kind s.kind kind) (sections p xs t))

-- the symbols that a table lists: what each entry but entry 0 says, in the order of the table
abbrev pub listed : Places → List ℕ → SymbolTable → List SymbolModel
listed p xs t = map (λ n. symbol_model p (span_bytes xs t.strings) (table_row xs t.place p.symbol_size n)) (range_with_len 1 t.count)
