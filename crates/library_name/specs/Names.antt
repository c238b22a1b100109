-- Which file names and which cache keys a target's name stands for. Assumes nothing.
use Rattle.std.specs.Prelude.{◌≡◌, ℕ, ◌⊎◌, List, [], ◌∷◌, ◌++◌, ◌≢◌}

-- `.so`
abbrev pub dot_so : List ℕ
dot_so = 46 ∷ 115 ∷ 111 ∷ []

-- `-`
abbrev pub dash : List ℕ
dash = 45 ∷ []

abbrev pub Starts : List ℕ → List ℕ → Type 0
Starts front xs = (more : List ℕ) × (xs ≡ front ++ more)

-- the stem of a name is the name without one `.so` at its end
abbrev pub Stem : List ℕ → List ℕ → Type 0
Stem name stem = (name ≡ stem ++ dot_so) ⊎ ((stem ≡ name) × ((front : List ℕ) → name ≢ front ++ dot_so))

-- a mapped file name: the stem, then nothing, or something that starts with `.so` or with `-`
pub record NamesFile (target file : List ℕ) : Type 0 where
  pub stem : List ℕ
  pub rest : List ℕ
  pub stemmed : Stem target stem
  pub shape : file ≡ stem ++ rest
  pub ends : (rest ≡ []) ⊎ (Starts dot_so rest ⊎ Starts dash rest)

-- a cache key: the target itself, or its stem and then something that starts with `.so`
abbrev pub NamesKey : List ℕ → List ℕ → Type 0
NamesKey target key = (key ≡ target) ⊎ ((stem : List ℕ) × Stem target stem × Starts (stem ++ dot_so) key)

-- the rest of a name that starts with the target's stem
pub record AfterStem (target name rest : List ℕ) : Type 0 where
  pub stem : List ℕ
  pub stemmed : Stem target stem
  pub shape : name ≡ stem ++ rest
