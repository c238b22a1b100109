use Rattle.std.proofs.Common.{arith}
use Rattle.std.proofs.lemmas.List.{length-append}
use Rattle.elf.specs.Classes.{elf64}
use Rattle.elf.specs.Tables.{listed}
use Rattle.elf.proofs.Insides.{layout_inside}
use Rattle.elf.proofs.Listings.{few_symbols, listed_length}
use Rattle.image_shelf.proofs.object.ObjectImage.symbol_count.Goals as goal

pub overflow_add-result : goal.overflow_add-result
overflow_add-result c =
    let xs = c.args.self.image.now in
    let inside = layout_inside elf64 xs _ c.args.self.laid in
    let dynamic = few_symbols xs c.args.self.layout.dynamic inside.dynamic in
    let plain = few_symbols xs c.args.self.layout.plain inside.plain in
    omega arith

pub returns : goal.returns
returns c =
    let xs = c.args.self.image.now in
    let layout = c.args.self.layout in
    let long = length-append (listed elf64 xs layout.dynamic) (listed elf64 xs layout.plain) in
    let dynamic = listed_length elf64 xs layout.dynamic in
    let plain = listed_length elf64 xs layout.plain in
    record { value = omega arith }
