-- Where a byte stands in a list of bytes. Assumes nothing.
use Rattle.std.specs.Prelude.{◌≡◌, ℕ, ◌<◌, List, length, ◌≢◌, slice_index}

-- the byte b stands at none of the first n places
abbrev pub Lacks : ℕ → List ℕ → ℕ → Type 0
Lacks b xs n = (k : ℕ) → k < n → slice_index xs k ≢ b

-- the byte b stands nowhere
abbrev pub Free : ℕ → List ℕ → Type 0
Free b xs = Lacks b xs (length xs)

-- i is the first place of b
pub record First (b : ℕ) (xs : List ℕ) (i : ℕ) : Type 0 where
  pub within : i < length xs
  pub here : slice_index xs i ≡ b
  pub before : Lacks b xs i

-- i is the last place of b
pub record Last (b : ℕ) (xs : List ℕ) (i : ℕ) : Type 0 where
  pub within : i < length xs
  pub here : slice_index xs i ≡ b
  pub after : (k : ℕ) → i < k → k < length xs → slice_index xs k ≢ b
