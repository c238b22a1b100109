-- What a line of /proc/PID/maps says, by proc(5). Assumes nothing.
use Rattle.std.specs.Prelude.{◌≡◌, ℕ, ◌+◌, ◌-◌, ◌<◌, true, List, [], ◌∷◌, ◌++◌, length, Some, None, Option, slice_index}
use Rattle.byte_parts.specs.Numbers.{Writes}
use Rattle.byte_parts.specs.Words.{white, dark, Only, FirstWord}

-- what a line says
pub record Mapping : Type 0 where
  pub address : ℕ
  pub address_end : ℕ
  pub perms : List ℕ
  pub offset : ℕ
  pub dev : List ℕ
  pub inode : ℕ
  pub path : Option (List ℕ)
  pub path_place : ℕ

-- the text is these words, with white space before each, and then the rest
pub data Words : List ℕ → List (List ℕ) → List ℕ → Type 0 where
  no_more : {text : List ℕ} → Words text [] text
  one_more : {text w left : List ℕ} {ws : List (List ℕ)} {rest : List ℕ} → FirstWord text w left → Words left ws rest → Words text (w ∷ ws) rest

-- the word is two hexadecimal numbers with a dash between them
pub record Range (word : List ℕ) (low high : ℕ) : Type 0 where
  pub left : List ℕ
  pub right : List ℕ
  pub shape : word ≡ left ++ (45 ∷ right)
  pub starts : Writes 16 left low
  pub stops : Writes 16 right high

-- the rest is white space, then the path, which neither starts nor ends with white space, then white space
pub record PathIn (rest : List ℕ) (gap : ℕ) (path : List ℕ) : Type 0 where
  pub before : List ℕ
  pub after : List ℕ
  pub shape : rest ≡ before ++ (path ++ after)
  pub gapped : length before ≡ gap
  pub blank_before : Only white before
  pub blank_after : Only white after
  pub some : 0 < length path
  pub first : dark (slice_index path 0) ≡ true
  pub last : dark (slice_index path (length path - 1)) ≡ true

-- the path behind the words, with its place in the line, or none where nothing but white space follows
abbrev pub Ends : List ℕ → List ℕ → Option (List ℕ) → ℕ → Type 0
Ends line rest None place = Only white rest × (place ≡ length line)
Ends line rest (Some path) place = (gap : ℕ) × PathIn rest gap path × (place ≡ length line - length rest + gap)

-- address, perms, offset, dev and inode, and perhaps a path
pub record Reads (line : List ℕ) (m : Mapping) : Type 0 where
  pub address_word : List ℕ
  pub offset_word : List ℕ
  pub inode_word : List ℕ
  pub rest : List ℕ
  pub words : Words line (address_word ∷ m.perms ∷ offset_word ∷ m.dev ∷ inode_word ∷ []) rest
  pub addresses : Range address_word m.address m.address_end
  pub in_file : Writes 16 offset_word m.offset
  pub numbered : Writes 10 inode_word m.inode
  pub ends : Ends line rest m.path m.path_place

-- the line says nothing
abbrev pub Unreadable : List ℕ → Type 0
Unreadable line = (m : Mapping) → Reads line m → ⊥

-- a line says one thing at most
abbrev pub ReadsOnce : Type 0
ReadsOnce = (line : List ℕ) (m n : Mapping) → Reads line m → Reads line n → m ≡ n
