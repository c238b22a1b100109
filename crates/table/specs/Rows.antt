-- Which row of a list passes a test first. Assumes nothing.
use Rattle.std.specs.Prelude.{◌≡◌, ℕ, ◌<◌, Bool, true, false, List, length, slice_index_or}

-- the rows before the place all fail the test
abbrev pub NoneBefore : {R : Type 0} → (R → Bool) → List R → ℕ → Type 0
NoneBefore {R} test rows n = (k : ℕ) (d : R) → k < n → test (slice_index_or rows k d) ≡ false

-- no row passes the test
abbrev pub NoRow : {R : Type 0} → (R → Bool) → List R → Type 0
NoRow test rows = NoneBefore test rows (length rows)

-- the row at i is the first that passes the test
pub record FirstRow {R : Type 0} (test : R → Bool) (rows : List R) (i : ℕ) : Type 0 where
  pub within : i < length rows
  pub here : (d : R) → test (slice_index_or rows i d) ≡ true
  pub before : NoneBefore test rows i
