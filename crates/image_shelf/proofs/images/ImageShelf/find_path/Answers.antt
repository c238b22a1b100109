use Rattle.std.proofs.Common.{List, ap, ◌∙◌}
use Rattle.std.specs.List.{position}
use Rattle.std.specs.Str.{bytes_eq}
use Rattle.byte_parts.proofs.Mapped.{position_map}
use Rattle.byte_parts.specs.Spans.{read_of}
use Rattle.image_shelf.specs.Contents.{shelf_rows}
use Rattle.image_shelf.specs.Images.{file_in}
use Rattle.image_shelf.specs.declared.rows.ImageRow.{ImageRow}
use Rattle.image_shelf.proofs.images.ImageShelf.find_path.Goals as goal

pub returns : goal.returns
returns c =
    let bytes = c.args.self.now.bytes.now in
    let path = c.args.path.now in
    record {
      value =
          c.find_path.ensures.value
          ∙ ap (λ (rows : List ImageRow). position (λ row. bytes_eq (read_of bytes row.path) path) rows) c.used.ensures.value
          ∙ position_map (λ f. bytes_eq f.path path) (file_in bytes) (shelf_rows c.args.self.now);
    }
