-- What an image on a shelf means. Assumes nothing.
use Rattle.elf.specs.Classes.{elf64}
use Rattle.elf.specs.Layouts.{object_in}
use Rattle.shelf.specs.Files.{ObjectModel}
use Rattle.image_shelf.specs.declared.object.ObjectImage.{ObjectImage}

-- the object file that it is
abbrev pub object_model : ObjectImage → ObjectModel
object_model o = object_in elf64 o.image.now o.layout
