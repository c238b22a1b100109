-- Where the fields of a 64-bit image lie, by the ELF specification's Elf64_Ehdr, Elf64_Shdr and Elf64_Sym. Assumes nothing.
use Rattle.byte_parts.specs.declared.fields.Width.TheVariants.{Eight}
use Rattle.elf.specs.declared.places.Places.{Places}

abbrev pub elf64 : Places
elf64 = record {
  class = 2;
  word = Eight;
  header_size = 64;
  e_shoff = 40;
  e_shentsize = 58;
  e_shnum = 60;
  e_shstrndx = 62;
  section_size = 64;
  sh_addr = 16;
  sh_offset = 24;
  sh_size = 32;
  sh_link = 40;
  sh_entsize = 56;
  symbol_size = 24;
  st_value = 8;
  st_shndx = 6;
}
