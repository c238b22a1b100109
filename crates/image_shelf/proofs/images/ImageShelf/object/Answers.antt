use Rattle.std.proofs.Common.{Some, sym, ap, ◌∙◌}
use Rattle.std.specs.Option.{option_map}
use Rattle.std.specs.List.{slice_get}
use Rattle.byte_parts.specs.Spans.{read_of}
use Rattle.elf.specs.Classes.{elf64}
use Rattle.elf.specs.Layouts.{layout_of, object_in}
use Rattle.image_shelf.specs.Contents.{shelf_rows}
use Rattle.image_shelf.specs.Objects.{object_model}
use Rattle.image_shelf.proofs.FileRows.{object_listed, row_laid}
use Rattle.image_shelf.proofs.images.ImageShelf.object.Goals as goal

pub returns-in_err-row-2 : goal.returns-in_err-row-2
returns-in_err-row-2 c =
    let bytes = c.args.self.now.bytes.now in
    let rows = shelf_rows c.args.self.now in
    let row = c.in_ok-row.row in
    let there = c.in_ok-row.ensures.value ∙ ap (λ l. slice_get l c.args.file) c.used.ensures.value in
    let laid = row_laid bytes rows c.args.self.now.laid c.args.file row there in
    record {
      value =
          ap (option_map object_model) c.from_residual-in_err-row-2.ensures
          ∙ ap (option_map (object_in elf64 (read_of bytes row.image))) (sym c.in_err-row-2.was)
          ∙ object_listed bytes rows c.args.file row there laid;
    }

pub invariant_of-result : goal.invariant_of-result
invariant_of-result c =
    let rows = shelf_rows c.args.self.now in
    let there = c.in_ok-row.ensures.value ∙ ap (λ l. slice_get l c.args.file) c.used.ensures.value in
    let laid = row_laid c.args.self.now.bytes.now rows c.args.self.now.laid c.args.file c.in_ok-row.row there in
    record { laid = sym c.in_ok-row-2.was ∙ ap (λ r. r.layout) laid ∙ ap (layout_of elf64) (sym c.part_or_empty.ensures.value) }

pub returns : goal.returns
returns c =
    let bytes = c.args.self.now.bytes.now in
    let rows = shelf_rows c.args.self.now in
    let row = c.in_ok-row.row in
    let there = c.in_ok-row.ensures.value ∙ ap (λ l. slice_get l c.args.file) c.used.ensures.value in
    let laid = row_laid bytes rows c.args.self.now.laid c.args.file row there in
    record {
      value =
          ap (λ xs. Some (object_in elf64 xs c.in_ok-row-2.field-0)) c.part_or_empty.ensures.value
          ∙ ap (option_map (object_in elf64 (read_of bytes row.image))) (sym c.in_ok-row-2.was)
          ∙ object_listed bytes rows c.args.file row there laid;
    }
