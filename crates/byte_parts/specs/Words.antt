-- White space, as Rust's `is_ascii_whitespace` has it, and words. Assumes nothing.
use Rattle.std.specs.Prelude.{◌≡◌, ℕ, ◌<◌, Bool, true, not, List, ◌++◌, length, slice_index}
use Rattle.std.specs.Char.{is_ascii_whitespace}

-- space, tab, line feed, form feed, carriage return
abbrev pub white : ℕ → Bool
white c = is_ascii_whitespace c

abbrev pub dark : ℕ → Bool
dark c = not (is_ascii_whitespace c)

-- every byte passes the test
abbrev pub Only : (ℕ → Bool) → List ℕ → Type 0
Only p xs = (k : ℕ) → k < length xs → p (slice_index xs k) ≡ true

-- the text is white space, then the word w, then the rest, which is empty or starts with white space
pub record FirstWord (text w rest : List ℕ) : Type 0 where
  pub pad : List ℕ
  pub shape : text ≡ pad ++ (w ++ rest)
  pub padded : Only white pad
  pub some : 0 < length w
  pub word : Only dark w
  pub ends : 0 < length rest → white (slice_index rest 0) ≡ true
