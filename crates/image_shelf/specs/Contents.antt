-- What an image shelf means. Assumes nothing.
use Rattle.std.specs.Prelude.{List, map, take}
use Rattle.shelf.specs.Files.{FileModel}
use Rattle.image_shelf.specs.Images.{file_in}
use Rattle.image_shelf.specs.declared.images.ImageShelf.{ImageShelf}
use Rattle.image_shelf.specs.declared.rows.ImageRow.{ImageRow}

-- the rows of its files
abbrev pub shelf_rows : ImageShelf → List ImageRow
shelf_rows s = take s.files s.rows.now

-- its files, in order
abbrev pub shelf_files : ImageShelf → List FileModel
shelf_files s = map (file_in s.bytes.now) (shelf_rows s)
