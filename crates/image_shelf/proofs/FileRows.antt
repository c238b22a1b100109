-- The files of an image shelf by their rows. Assumes nothing.
use Rattle.std.proofs.Common.{◌≡◌, ℕ, List, map, length, get_or, Some, None, sym, ap, ◌∙◌, ⊎_elim, arith}
use mathlib.Core.Logic.{∥∥₁_elim}
use base.Stored.{Coded-set}
use Rattle.std.specs.Option.{option_map}
use Rattle.std.specs.List.{slice_get}
use Rattle.std.proofs.lemmas.Option.{slice_get-get_or, slice_get_past}
use Rattle.std.proofs.lemmas.Bool.{cases_lt}
use Rattle.byte_parts.specs.Spans.{read_of}
use Rattle.byte_parts.proofs.Mapped.{nth_map}
use Rattle.shelf.specs.Questions.{ask, object_of}
use Rattle.elf.specs.Classes.{elf64}
use Rattle.elf.specs.Layouts.{object_in}
use Rattle.image_shelf.specs.Images.{AllLaid, Laid, file_in}
use Rattle.image_shelf.specs.contracts.rows.ImageRow.{the_row}
use Rattle.image_shelf.specs.declared.rows.ImageRow.{ImageRow}

module _ (bytes : List ℕ) (rows : List ImageRow) where
  -- the row of a file keeps its image's layout
  pub row_laid : ∥ AllLaid bytes rows ∥₁ → (file : ℕ) (row : ImageRow) → Some row ≡ slice_get rows file → Laid bytes row
  row_laid all file row e =
      ∥∥₁_elim all (Coded-set the_row.coded row _) (λ laid.
      ⊎_elim
      (λ l. let there = slice_get-get_or rows file row l in let same : get_or rows file row ≡ row = cc in rw same at (laid file row l))
      (λ past.
      let gone = slice_get_past rows file past in
      let z : ◌≡◌ {A = ℕ} 0 1 = cc in
      absurd (omega arith))
      (cases_lt file (length rows)))

  -- no file has the number
  pub no_file : (file : ℕ) → None ≡ slice_get rows file → None ≡ object_of (map (file_in bytes) rows) file
  no_file file e = ap (λ o. ask (option_map (file_in bytes) o) (λ f. f.object)) e ∙ ap (λ o. ask o (λ f. f.object)) (sym (nth_map (file_in bytes) rows file))

  -- the object file of a row
  pub object_listed : (file : ℕ) (row : ImageRow) → Some row ≡ slice_get rows file → Laid bytes row → option_map (object_in elf64 (read_of bytes row.image)) row.layout ≡ object_of (map (file_in bytes) rows) file
  object_listed file row e laid =
      ap (option_map (object_in elf64 (read_of bytes row.image))) (ap (λ r. r.layout) laid)
      ∙ ap (λ o. ask (option_map (file_in bytes) o) (λ f. f.object)) e
      ∙ ap (λ o. ask o (λ f. f.object)) (sym (nth_map (file_in bytes) rows file))
