use Rattle.std.proofs.Common.{◌-◌, sym, ◌∙◌}
use Rattle.std.proofs.lemmas.List.FromFn.{length-map-range_with_len}
use Rattle.elf.specs.Classes.{elf64}
use Rattle.elf.specs.Layouts.{section_model}
use Rattle.elf.specs.Sections.{nth_section}
use Rattle.image_shelf.proofs.object.ObjectImage.section_count.Goals as goal

pub returns : goal.returns
returns c =
    let table = c.args.self.layout.sections in
    let long = length-map-range_with_len (λ n. section_model n (nth_section elf64 c.args.self.image.now table n)) 1 (table.count - 1) in
    record { value = c.saturating_sub.ensures ∙ sym long }
