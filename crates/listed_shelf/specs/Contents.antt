-- What a listed shelf means. Assumes nothing.
use Rattle.std.specs.Prelude.{List, map}
use Rattle.shelf.specs.Files.{FileModel, ObjectModel}
use Rattle.listed_shelf.specs.declared.listed.ListedShelf.{ListedShelf}
use Rattle.listed_shelf.specs.declared.rows.ObjectRow.{ObjectRow}
use Rattle.listed_shelf.specs.Model.{file_model, object_model}

-- its files, in order
abbrev pub shelf_files : ListedShelf → List FileModel
shelf_files s = map (file_model s.rows) s.rows.files.now

-- what an object row says on it
abbrev pub object_on : ListedShelf → ObjectRow → ObjectModel
object_on s = object_model s.rows
