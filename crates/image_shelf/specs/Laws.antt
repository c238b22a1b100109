-- Which files an image shelf has: its rows, in order. Assumes nothing.
use Rattle.std.specs.Prelude.{◌≡◌, ℕ, List, [], length, Some, None}
use Rattle.std.specs.List.{slice_get}
use Rattle.byte_parts.specs.Parts.{PartOf}
use Rattle.shelf.specs.Files.{FileModel}
use Rattle.elf.specs.Classes.{elf64}
use Rattle.elf.specs.Layouts.{image_object}
use Rattle.image_shelf.specs.Images.{first_outside}
use Rattle.image_shelf.specs.declared.rows.ImageRow.{ImageRow}

-- a file is what its row points to: the path and the image stand where it says
pub record FromRow (bytes : List ℕ) (row : ImageRow) (file : FileModel) : Type 0 where
  pub path : PartOf bytes row.path.place file.path
  pub path_long : length file.path ≡ row.path.len
  pub image : List ℕ
  pub stands : PartOf bytes row.image.place image
  pub image_long : length image ≡ row.image.len
  pub object : file.object ≡ image_object elf64 image

-- one file for each row, in the order of the rows
pub record FromRows (bytes : List ℕ) (rows : List ImageRow) (files : List FileModel) : Type 0 where
  pub count : length files ≡ length rows
  pub each : (i : ℕ) (row : ImageRow) (file : FileModel) → slice_get rows i ≡ Some row → slice_get files i ≡ Some file → FromRow bytes row file

-- unless a row points outside: then there is no file
abbrev pub HasRows : List ℕ → List ImageRow → List FileModel → Type 0
HasRows bytes rows files = (first_outside bytes rows ≡ None → FromRows bytes rows files) × ((place : ℕ) → first_outside bytes rows ≡ Some place → files ≡ [])
