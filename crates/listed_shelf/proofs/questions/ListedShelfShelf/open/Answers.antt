use Rattle.std.proofs.Common.{◌∙◌}
use Rattle.std.specs.Str.{bytes_eq}
use Rattle.byte_parts.proofs.Mapped.{position_map}
use Rattle.listed_shelf.specs.Model.{file_model}
use Rattle.listed_shelf.proofs.questions.ListedShelfShelf.open.Goals as goal

pub returns : goal.returns
returns c =
    let rows = c.args.self.now.rows in
    record { value = c.find_path.ensures.value ∙ position_map (λ f. bytes_eq f.path c.args.path.now) (file_model rows) rows.files.now }
