-- Looking a library up in maps by its name. Assumes nothing.
use Rattle.std.specs.Prelude.{◌≡◌, ℕ, ◌+◌, ◌⊎◌, List, [], ◌∷◌, length, Some, None, Ok, Err, Option, Result}
use Rattle.byte_parts.specs.Refusals.{Refusal, refuse}
use Rattle.byte_parts.specs.declared.part.Part.{Part}
use Rattle.library_name.specs.Names.{NamesFile}
use Rattle.unix_path.specs.Paths.{FileName}
use Rattle.proc_map.specs.declared.fault.LineFault.{LineFault}
use Rattle.proc_map.specs.Faults.{line_refusal}
use Rattle.proc_map.specs.Line.{Mapping, Reads, Unreadable}
use Rattle.proc_map.specs.Maps.{Line}

-- what a look-up ends with
pub data Found : Type 0 where
  path_at : ℕ → List ℕ → Found
  nowhere : Found
  refused : Refusal → Found

-- the answer of the program as its reader sees it
abbrev pub found : Result (Option Part) LineFault → Found
found (Ok (Some p)) = path_at p.place p.bytes.now
found (Ok None) = nowhere
found (Err f) = refused (line_refusal f)

-- the mapping has a path whose file name stands for the target
pub record NamesPath (target : List ℕ) (m : Mapping) (path : List ℕ) : Type 0 where
  pub has : m.path ≡ Some path
  pub file : List ℕ
  pub last : FileName path file
  pub names : NamesFile target file

-- the first line that names the target gives its path, and a line before it that cannot be read is refused
abbrev pub LooksUp : List ℕ → List Line → Found → Type 0
LooksUp target [] answer = answer ≡ nowhere
LooksUp target (l ∷ ls) answer =
    (Unreadable l.bytes × (answer ≡ refused (refuse 3 (l.place ∷ length l.bytes ∷ []))))
    ⊎ ((m : Mapping)
    × Reads l.bytes m
    × (((path : List ℕ) × NamesPath target m path × (answer ≡ path_at (l.place + m.path_place) path))
    ⊎ (((path : List ℕ) → NamesPath target m path → ⊥) × LooksUp target ls answer)))

-- a look-up has one answer
abbrev pub LooksUpOnce : Type 0
LooksUpOnce =
    (target : List ℕ) (ls : List Line) (a b : Found) → LooksUp target ls a → LooksUp target ls b → a ≡ b
