-- Paths on Unix, by the documentation of Rust's `std::path`. Assumes nothing.
use Rattle.std.specs.Prelude.{◌≡◌, ℕ, ◌-◌, ◌≤◌, Bool, true, cond, not, ◌&&◌, List, [], ◌∷◌, ◌++◌, length, take, filter, ◌==◌, slice_index}
use Rattle.std.specs.Str.{bytes_eq}
use Rattle.byte_parts.specs.Cut.{cut}

abbrev pub slash : ℕ
slash = 47

-- the piece `.`, which names the folder that it stands in
abbrev pub here : List ℕ
here = 46 ∷ []

-- the piece `..`, which names the folder above
abbrev pub above : List ℕ
above = 46 ∷ 46 ∷ []

abbrev pub some : List ℕ → Bool
some p = not (length p == 0)

-- a piece behind a slash is skipped where it is empty or `.`
abbrev pub later : List ℕ → Bool
later p = some p && not (bytes_eq p here)

-- of what stands between the slashes, the first is skipped only where it is empty
abbrev pub opened : List (List ℕ) → List (List ℕ)
opened [] = []
opened (p ∷ ps) = filter some (p ∷ []) ++ filter later ps

-- the pieces that a path is read as, besides its root
abbrev pub pieces : List ℕ → List (List ℕ)
pieces path = opened (cut slash path)

-- whether the path starts at the root
abbrev pub rooted : List ℕ → Bool
rooted path = slice_index path 0 == slash

-- two paths that are read alike
pub record Alike (p q : List ℕ) : Type 0 where
  pub same_pieces : pieces p ≡ pieces q
  pub same_root : rooted p ≡ rooted q

-- the file name is the last piece, unless that is `.` or `..`
pub record FileName (path name : List ℕ) : Type 0 where
  pub before : List (List ℕ)
  pub last : pieces path ≡ before ++ (name ∷ [])
  pub not_here : name ≡ here → ⊥
  pub not_above : name ≡ above → ⊥

-- the parent is the shortest front of the path that is read as all its pieces but the last, under the same root
pub record Parent (path parent : List ℕ) : Type 0 where
  pub final : List ℕ
  pub last : pieces path ≡ pieces parent ++ (final ∷ [])
  pub root : rooted parent ≡ rooted path
  pub front : parent ≡ take (length parent) path
  pub shortest : (n : ℕ) → pieces (take n path) ≡ pieces parent → rooted (take n path) ≡ rooted path → length parent ≤ n

-- nothing, or something that ends with a slash
abbrev pub open_ended : List ℕ → Bool
open_ended base = cond (some base) (slice_index base (length base - 1) == slash) true

-- the name under the base: a name at the root stands alone, any other follows the base and one slash
abbrev pub joined_path : List ℕ → List ℕ → List ℕ
joined_path base name = cond (rooted name) name (cond (open_ended base) (base ++ name) (base ++ (slash ∷ name)))
