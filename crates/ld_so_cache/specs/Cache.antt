-- The loader's cache, `ld.so.cache`, in its second format, by glibc's dl-cache.h. Assumes nothing.
use Rattle.std.specs.Prelude.{◌≡◌, ℕ, ◌+◌, ◌*◌, ◌<◌, ◌≤◌, List, length, take, codes}
use Rattle.byte_parts.specs.Fields.{little_endian, StringAt}
use Rattle.library_name.specs.Names.{NamesKey}

-- what the format starts with
abbrev pub magic : List ℕ
magic = codes "glibc-ld.so.cache1.1"

-- the magic, 20 bytes, and after it a count of 4 bytes
pub record Header (bytes : List ℕ) : Type 0 where
  pub starts : take 20 bytes ≡ magic
  pub counted : 24 ≤ length bytes

-- how many entries there are
abbrev pub count : List ℕ → ℕ
count bytes = little_endian 4 bytes 20

-- where entry n starts, numbered from 1: after 24 more bytes of header, 24 bytes each
abbrev pub entry_place : ℕ → ℕ
entry_place n = 24 + 24 * n

-- the flags, the key's place and the value's place of entry n are there, 4 bytes each
abbrev pub Room : List ℕ → ℕ → Type 0
Room bytes n = entry_place n + 12 ≤ length bytes

abbrev pub flags : List ℕ → ℕ → ℕ
flags bytes n = little_endian 4 bytes (entry_place n)

-- places count from the start of the cache
abbrev pub key_place : List ℕ → ℕ → ℕ
key_place bytes n = little_endian 4 bytes (entry_place n + 4)

abbrev pub value_place : List ℕ → ℕ → ℕ
value_place bytes n = little_endian 4 bytes (entry_place n + 8)

-- entry n has this key and this value
pub record Entry (bytes : List ℕ) (n : ℕ) (key value : List ℕ) : Type 0 where
  pub room : Room bytes n
  pub key_here : StringAt bytes (key_place bytes n) key
  pub value_here : StringAt bytes (value_place bytes n) value

abbrev pub Whole : List ℕ → ℕ → Type 0
Whole bytes n = (key : List ℕ) × (value : List ℕ) × Entry bytes n key value

-- a cache that can be read: its header is there, and each entry is whole
pub record Good (bytes : List ℕ) : Type 0 where
  pub header : Header bytes
  pub entries : (n : ℕ) → 0 < n → n ≤ count bytes → Whole bytes n

-- of the entries up to number `total`, entry n is the first that stands for the target
pub record Finds (bytes : List ℕ) (total : ℕ) (target : List ℕ) (n : ℕ) (value : List ℕ) : Type 0 where
  pub some : 0 < n
  pub within : n ≤ total
  pub key : List ℕ
  pub entry : Entry bytes n key value
  pub names : NamesKey target key
  pub first : (m : ℕ) (k v : List ℕ) → 0 < m → m < n → Entry bytes m k v → NamesKey target k → ⊥

-- none of the entries up to number `total` stands for the target
abbrev pub FindsNone : List ℕ → ℕ → List ℕ → Type 0
FindsNone bytes total target = (m : ℕ) (k v : List ℕ) → 0 < m → m ≤ total → Entry bytes m k v → NamesKey target k → ⊥

-- the fields of entry n are there, and are these
pub record FieldsRead (bytes : List ℕ) (n flag key_from value_from : ℕ) : Type 0 where
  pub room : Room bytes n
  pub flag_is : flag ≡ flags bytes n
  pub key_from_is : key_from ≡ key_place bytes n
  pub value_from_is : value_from ≡ value_place bytes n

-- entry n is one of those up to number `total`, and has these flags, this key and this value, at these places
pub record EntryRead (bytes : List ℕ) (total n flag key_from : ℕ) (key : List ℕ) (value_from : ℕ) (value : List ℕ) : Type 0 where
  pub some : 0 < n
  pub within : n ≤ total
  pub entry : Entry bytes n key value
  pub flag_is : flag ≡ flags bytes n
  pub key_from_is : key_from ≡ key_place bytes n
  pub value_from_is : value_from ≡ value_place bytes n
