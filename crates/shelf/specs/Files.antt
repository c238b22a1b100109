-- What a shelf means: files in order, each with what its object file says, if it is one. Assumes nothing.
use Rattle.std.specs.Prelude.{ℕ, List, Option}
use Rattle.shelf.specs.declared.object.Debuglink.{Debuglink}
use Rattle.shelf.specs.declared.object.ObjectKind.{ObjectKind}
use Rattle.shelf.specs.declared.object.Section.{Section}
use Rattle.shelf.specs.declared.object.Symbol.{Symbol}

-- a symbol: its name, if it has one, and its address and section
pub record SymbolModel : Type 0 where
  pub name : Option (List ℕ)
  pub symbol : Symbol

-- what an object file says of the file that has its debug symbols, with its name
abbrev pub LinkModel : Type 0
LinkModel = Debuglink (List ℕ)

-- an object file: its symbols in the order of a scan, its sections, each with its number
pub record ObjectModel : Type 0 where
  pub kind : ObjectKind
  pub symbols : List SymbolModel
  pub sections : List Section
  pub debuglink : LinkModel
  pub build_id : Option (List ℕ)

-- a file: its path, and the object file that it is, if it is one
pub record FileModel : Type 0 where
  pub path : List ℕ
  pub object : Option ObjectModel
