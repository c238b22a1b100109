-- The entries of symbol tables, by the ELF specification's Sym. Assumes nothing.
use Rattle.std.specs.Prelude.{ℕ, cond, ◌||◌, List, Some, None, Option, ◌==◌, nat_le}
use Rattle.byte_parts.specs.Fields.{little_endian, string_in}
use Rattle.shelf.specs.Files.{SymbolModel}
use Rattle.shelf.specs.declared.object.Symbol.{Symbol}
use Rattle.elf.specs.Headers.{word_at}
use Rattle.elf.specs.declared.places.Places.{Places}

-- the section that st_shndx names: 0 is SHN_UNDEF, and SHN_LORESERVE is 0xff00
abbrev pub section_named : ℕ → Option ℕ
section_named n = cond (n == 0 || nat_le 65280 n) None (Some n)

-- what an entry says, but for the name
abbrev pub symbol_in : Places → List ℕ → Symbol
symbol_in p entry =
    record {
      address = record { 0 = word_at p entry p.st_value };
      section = section_named (little_endian 2 entry p.st_shndx);
    }

-- what an entry says, with the name that stands in the strings at st_name
abbrev pub symbol_model : Places → List ℕ → List ℕ → SymbolModel
symbol_model p strings entry = record { name = string_in strings (little_endian 4 entry 0); symbol = symbol_in p entry }
