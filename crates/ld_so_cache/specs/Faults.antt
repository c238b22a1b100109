-- Why a cache is refused, and which refusal each fault is. Assumes nothing.
use Rattle.std.specs.Prelude.{◌≡◌, ℕ, ◌<◌, ◌≤◌, ◌⊎◌, List, [], ◌∷◌, length, take, ◌≢◌}
use Rattle.byte_parts.specs.Refusals.{Refusal, refuse}
use Rattle.ld_so_cache.specs.declared.fault.CacheFault.{CacheFault}
use Rattle.ld_so_cache.specs.declared.fault.CacheFault.TheVariants.{Truncated, InvalidHeader, InvalidString}
use Rattle.ld_so_cache.specs.Cache.{magic, Header, count, Room, Whole}

-- the number and the values of each fault
abbrev pub cache_refusal : CacheFault → Refusal
cache_refusal (Truncated entry) = refuse 4 (entry ∷ [])
cache_refusal InvalidHeader = refuse 5 []
cache_refusal (InvalidString entry) = refuse 6 (entry ∷ [])

-- the bytes end before the magic does, or right after it before the count does
abbrev pub NoCount : List ℕ → Type 0
NoCount bytes = (length bytes < 20) ⊎ ((take 20 bytes ≡ magic) × (length bytes < 24))

-- entry n is there to be read, and those before it are whole
pub record Reaches (bytes : List ℕ) (n : ℕ) : Type 0 where
  pub header : Header bytes
  pub some : 0 < n
  pub within : n ≤ count bytes
  pub before : (m : ℕ) → 0 < m → m < n → Whole bytes m

-- what each fault says of the cache
abbrev pub Refuses : List ℕ → CacheFault → Type 0
Refuses bytes (Truncated entry) = ((entry ≡ 0) × NoCount bytes) ⊎ (Reaches bytes entry × (Room bytes entry → ⊥))
Refuses bytes InvalidHeader = (20 ≤ length bytes) × (take 20 bytes ≢ magic)
Refuses bytes (InvalidString entry) = Reaches bytes entry × Room bytes entry × (Whole bytes entry → ⊥)

-- what a fault of entry n says of it
abbrev pub EntryFault : List ℕ → ℕ → CacheFault → Type 0
EntryFault bytes n (Truncated entry) = (entry ≡ n) × (Room bytes n → ⊥)
EntryFault bytes n InvalidHeader = ⊥
EntryFault bytes n (InvalidString entry) = (entry ≡ n) × Room bytes n × (Whole bytes n → ⊥)
