-- A part of a longer list, by its place. Assumes nothing.
use Rattle.std.specs.Prelude.{◌≡◌, ℕ, ◌+◌, ◌≤◌, List, length, take, drop}

-- bs stands in the whole at the place
pub record PartOf (whole : List ℕ) (place : ℕ) (bs : List ℕ) : Type 0 where
  pub within : place + length bs ≤ length whole
  pub bytes : bs ≡ take (length bs) (drop place whole)
