-- What an entry of a symbol table means. Assumes nothing.
use Rattle.elf.specs.Classes.{elf64}
use Rattle.elf.specs.Symbols.{symbol_model}
use Rattle.shelf.specs.Files.{SymbolModel}
use Rattle.image_shelf.specs.declared.entry.Entry.{Entry}

abbrev pub entry_model : Entry → SymbolModel
entry_model e = symbol_model elf64 e.strings.now e.bytes.now
