use Rattle.std.proofs.Common.{◌-◌, sym, ap, ◌∙◌, arith}
use Rattle.std.specs.List.{slice_get}
use Rattle.elf.specs.Classes.{elf64}
use Rattle.elf.specs.Tables.{listed}
use Rattle.elf.proofs.Insides.{layout_inside}
use Rattle.byte_parts.proofs.Counting.{nth_front, nth_back}
use Rattle.elf.proofs.Listings.{listed_length}
use Rattle.image_shelf.proofs.object.ObjectImage.entry.Goals as goal

pub in_table-requires : goal.in_table-requires
in_table-requires c = (layout_inside elf64 c.args.self.image.now _ c.args.self.laid).dynamic

pub returns-then-at-dynamic : goal.returns-then-at-dynamic
returns-then-at-dynamic c =
    let xs = c.args.self.image.now in
    let layout = c.args.self.layout in
    let long = listed_length elf64 xs layout.dynamic in
    let l = c.if-at-dynamic.true in
    record {
      value = c.in_table.ensures.value ∙ sym (nth_front (listed elf64 xs layout.dynamic) (listed elf64 xs layout.plain) c.args.at (omega arith));
    }

pub in_table-requires-2 : goal.in_table-requires-2
in_table-requires-2 c = (layout_inside elf64 c.args.self.image.now _ c.args.self.laid).plain

pub returns : goal.returns
returns c =
    let xs = c.args.self.image.now in
    let layout = c.args.self.layout in
    let long = listed_length elf64 xs layout.dynamic in
    let l = c.if-at-dynamic.false in
    record {
      value =
          c.in_table-2.ensures.value
          ∙ ap (λ n. slice_get (listed elf64 xs layout.plain) (c.args.at - n)) (sym long)
          ∙ sym (nth_back (listed elf64 xs layout.dynamic) (listed elf64 xs layout.plain) c.args.at (omega arith));
    }
