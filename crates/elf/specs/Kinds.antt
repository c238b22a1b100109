-- What sections are, by the ELF specification's sh_type. Assumes nothing.
use Rattle.std.specs.Prelude.{ℕ, Bool, true, false, cond, ◌==◌}
use Rattle.elf.specs.declared.kind.SectionKind.{SectionKind}
use Rattle.elf.specs.declared.kind.SectionKind.TheVariants.{PlainSymbols, Notes, NoBits, DynamicSymbols, Other}

-- sh_type: 2 is SHT_SYMTAB, 7 SHT_NOTE, 8 SHT_NOBITS, 11 SHT_DYNSYM
abbrev pub kind_of : ℕ → SectionKind
kind_of n = cond (n == 2) PlainSymbols (cond (n == 7) Notes (cond (n == 8) NoBits (cond (n == 11) DynamicSymbols (Other n))))

-- what the derived `==` answers: the kinds are one, and where they are others so are their numbers
abbrev pub same_kind : SectionKind → SectionKind → Bool
same_kind PlainSymbols PlainSymbols = true
same_kind Notes Notes = true
same_kind NoBits NoBits = true
same_kind DynamicSymbols DynamicSymbols = true
same_kind (Other m) (Other n) = m == n
same_kind _ _ = false
