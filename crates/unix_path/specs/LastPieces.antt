-- The last piece of a path, by its place. Assumes nothing.
use Rattle.std.specs.Prelude.{◌≡◌, ℕ, ◌<◌, ◌≤◌, List, [], ◌∷◌, ◌++◌, length, take}
use Rattle.std.specs.List.{between}
use Rattle.byte_parts.specs.Places.{Free}
use Rattle.unix_path.specs.Paths.{slash, pieces}

-- the last piece stands from start up to end, which is where the shortest front ends that is read as all the pieces
pub record LastPiece (path : List ℕ) (start end : ℕ) : Type 0 where
  pub some : start < end
  pub within : end ≤ length path
  pub last : pieces path ≡ pieces (take start path) ++ (between start end path ∷ [])
  pub free : Free slash (between start end path)
  pub enough : pieces (take end path) ≡ pieces path
  pub shortest : (n : ℕ) → pieces (take n path) ≡ pieces path → end ≤ n
