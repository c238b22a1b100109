-- What the rows of an image shelf mean. Assumes nothing.
use Rattle.std.specs.Prelude.{◌≡◌, ℕ, ◌<◌, Bool, cond, not, ◌&&◌, List, [], map, length, is_some, Option, slice_index_or}
use Rattle.std.specs.List.{position}
use Rattle.byte_parts.specs.Spans.{inside, read_of}
use Rattle.shelf.specs.Files.{FileModel}
use Rattle.elf.specs.Classes.{elf64}
use Rattle.elf.specs.Layouts.{image_object, layout_of}
use Rattle.image_shelf.specs.declared.rows.ImageRow.{ImageRow}

-- a file by its row: the path, and the object file that its bytes are, if they are one
abbrev pub file_in : List ℕ → ImageRow → FileModel
file_in bytes row = record { path = read_of bytes row.path; object = image_object elf64 (read_of bytes row.image) }

-- the row with its image's layout
abbrev pub with_layout : List ℕ → ImageRow → ImageRow
with_layout bytes row = record { path = row.path; image = row.image; layout = layout_of elf64 (read_of bytes row.image) }

-- the layout that a row keeps is that of its image
abbrev pub Laid : List ℕ → ImageRow → Type 0
Laid bytes row = row ≡ with_layout bytes row

abbrev pub AllLaid : List ℕ → List ImageRow → Type 0
AllLaid bytes rows = (i : ℕ) (d : ImageRow) → i < length rows → Laid bytes (slice_index_or rows i d)

-- a row points outside where its path or its image does
abbrev pub outside : ℕ → ImageRow → Bool
outside long row = not (inside long row.path && inside long row.image)

-- the first row that points outside
abbrev pub first_outside : List ℕ → List ImageRow → Option ℕ
first_outside bytes rows = position (outside (length bytes)) rows

-- the files that the rows list, or none where a row points outside
abbrev pub image_files : List ℕ → List ImageRow → List FileModel
image_files bytes rows = cond (is_some (first_outside bytes rows)) [] (map (file_in bytes) rows)

-- the rows after that: each with its image's layout, and as they were where one points outside
abbrev pub read_rows : List ℕ → List ImageRow → List ImageRow
read_rows bytes rows = cond (is_some (first_outside bytes rows)) rows (map (with_layout bytes) rows)
