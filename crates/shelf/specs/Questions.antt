-- What each question to a shelf answers, by the files that the shelf means. Assumes nothing.
use Rattle.std.specs.Prelude.{ℕ, cond, List, ◌++◌, length, drop, Some, None, Option, nat_eq, nat_le}
use Rattle.std.specs.Option.{option_map}
use Rattle.std.specs.List.{find, position, slice_get}
use Rattle.std.specs.Str.{bytes_eq}
use Rattle.shelf.specs.Files.{FileModel, LinkModel, ObjectModel, SymbolModel}
use Rattle.shelf.specs.declared.object.Debuglink.{Debuglink}
use Rattle.shelf.specs.declared.object.Debuglink.TheVariants.{Absent, Malformed, Named}
use Rattle.shelf.specs.declared.object.ObjectKind.{ObjectKind}
use Rattle.shelf.specs.declared.object.Section.{Section}
use Rattle.shelf.specs.declared.object.Symbol.{Symbol}

-- an answer that asks on where there is one
abbrev pub ask : {X Y : Type 0} → Option X → (X → Option Y) → Option Y
ask None f = None
ask (Some x) f = f x

-- the number of the first file with exactly this path
abbrev pub opened : List FileModel → List ℕ → Option ℕ
opened files path = position (λ f. bytes_eq f.path path) files

-- the object file with this number
abbrev pub object_of : List FileModel → ℕ → Option ObjectModel
object_of files file = ask (slice_get files file) (λ f. f.object)

abbrev pub kind_of : List FileModel → ℕ → Option ObjectKind
kind_of files file = option_map (λ o. o.kind) (object_of files file)

abbrev pub symbols_of : List FileModel → ℕ → Option ℕ
symbols_of files file = option_map (λ o. length o.symbols) (object_of files file)

abbrev pub model_of : List FileModel → ℕ → ℕ → Option SymbolModel
model_of files file symbol = ask (object_of files file) (λ o. slice_get o.symbols symbol)

abbrev pub symbol_of : List FileModel → ℕ → ℕ → Option Symbol
symbol_of files file symbol = option_map (λ s. s.symbol) (model_of files file symbol)

abbrev pub name_of : List FileModel → ℕ → ℕ → Option (List ℕ)
name_of files file symbol = ask (model_of files file symbol) (λ s. s.name)

abbrev pub name_len : List FileModel → ℕ → ℕ → Option ℕ
name_len files file symbol = option_map length (name_of files file symbol)

abbrev pub name_byte : List FileModel → ℕ → ℕ → ℕ → Option ℕ
name_byte files file symbol at = ask (name_of files file symbol) (λ s. slice_get s at)

-- what a buffer holds after a name was written into its front, if there is one that fits
abbrev pub with_name : Option (List ℕ) → List ℕ → List ℕ
with_name None out = out
with_name (Some name) out = cond (nat_le (length name) (length out)) (name ++ drop (length name) out) out

abbrev pub sections_of : List FileModel → ℕ → Option ℕ
sections_of files file = option_map (λ o. length o.sections) (object_of files file)

abbrev pub section_at : List FileModel → ℕ → ℕ → Option Section
section_at files file place = ask (object_of files file) (λ o. slice_get o.sections place)

-- the first section with this number
abbrev pub section_of : List FileModel → ℕ → ℕ → Option Section
section_of files file number = ask (object_of files file) (λ o. find (λ s. nat_eq s.number number) o.sections)

abbrev pub link_answer : LinkModel → Debuglink ℕ
link_answer Absent = Absent
link_answer Malformed = Malformed
link_answer (Named name) = Named (length name)

abbrev pub link_name : LinkModel → Option (List ℕ)
link_name Absent = None
link_name Malformed = None
link_name (Named name) = Some name

abbrev pub debuglink_of : List FileModel → ℕ → Option (Debuglink ℕ)
debuglink_of files file = option_map (λ o. link_answer o.debuglink) (object_of files file)

abbrev pub debuglink_byte : List FileModel → ℕ → ℕ → Option ℕ
debuglink_byte files file at = ask (object_of files file) (λ o. ask (link_name o.debuglink) (λ s. slice_get s at))

abbrev pub build_id_len : List FileModel → ℕ → Option ℕ
build_id_len files file = ask (object_of files file) (λ o. option_map length o.build_id)

abbrev pub build_id_byte : List FileModel → ℕ → ℕ → Option ℕ
build_id_byte files file at = ask (object_of files file) (λ o. ask o.build_id (λ s. slice_get s at))
