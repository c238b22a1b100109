-- What an entry of the program says. Assumes nothing.
use Rattle.std.specs.Option.{option_map}
use Rattle.proc_map.specs.declared.entry.ProcMapEntry.{ProcMapEntry}
use Rattle.proc_map.specs.Line.{Mapping}

abbrev pub mapping : ProcMapEntry → Mapping
mapping e = record {
  address = e.address;
  address_end = e.address_end;
  perms = e.perms.now;
  offset = e.offset;
  dev = e.dev.now;
  inode = e.inode;
  path = option_map (λ x. x.now) e.path;
  path_place = e.path_place;
}
