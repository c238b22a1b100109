-- What the C-callable functions answer and write, over the definitions of the library. Assumes nothing.
use Rattle.std.specs.Prelude.{◌≡◌, ℕ, cond, ◌⊎◌, List, length, Some, None, Option, ◌==◌, slice_index_or}
use Rattle.attach_target.specs.declared.target.Target.{Target}
use Rattle.attach_target.specs.declared.target.Target.TheVariants.{Given, Mapped, Cached}
use Rattle.attach_target.specs.Targets.{Answer, as_given, in_maps, in_cache, turned_away}
use Rattle.byte_parts.specs.Refusals.{Refusal}
use Rattle.byte_parts.specs.declared.part.Part.{Part}
use Rattle.ld_so_cache.specs.declared.fault.CacheFault.{CacheFault}
use Rattle.ld_so_cache.specs.Cache.{count, Good}
use Rattle.ld_so_cache.specs.Faults.{Refuses, cache_refusal}

-- bytes that could be read, or none at 0
abbrev pub given_bytes : ℕ → List ℕ → Option (List ℕ)
given_bytes readable bytes = cond (readable == 0) None (Some bytes)

-- value i that a refusal carries, or what stood there before
abbrev pub carried : Refusal → ℕ → ℕ → ℕ
carried r i old = slice_index_or r.values i old

-- the number of the source, and the path
abbrev pub source_number : Target → ℕ
source_number (Given p) = 1
source_number (Mapped p) = 2
source_number (Cached p) = 3

abbrev pub found_part : Target → Part
found_part (Given p) = p
found_part (Mapped p) = p
found_part (Cached p) = p

-- 0 and the number of entries, or the refusal's number and the entry's number; the other place is as it was
abbrev pub CacheTold : List ℕ → ℕ → ℕ → ℕ → ℕ → ℕ → Type 0
CacheTold cache r old_entries entries old_entry entry =
    ((r ≡ 0) × Good cache × (entries ≡ count cache) × (entry ≡ old_entry))
    ⊎ ((f : CacheFault) × Refuses cache f × (r ≡ (cache_refusal f).number) × (entries ≡ old_entries) × (entry ≡ carried (cache_refusal f) 0 old_entry))

-- 0 with the source's number, the path's place and its length; or the refusal's number, and these three as they were
abbrev pub Told : Answer → ℕ → ℕ → ℕ → ℕ → ℕ → ℕ → ℕ → Type 0
Told (as_given p bs) r old_source source old_place place old_len len =
    (r ≡ 0) × (source ≡ 1) × (place ≡ p) × (len ≡ length bs)
Told (in_maps p bs) r old_source source old_place place old_len len =
    (r ≡ 0) × (source ≡ 2) × (place ≡ p) × (len ≡ length bs)
Told (in_cache p bs) r old_source source old_place place old_len len =
    (r ≡ 0) × (source ≡ 3) × (place ≡ p) × (len ≡ length bs)
Told (turned_away e) r old_source source old_place place old_len len =
    (r ≡ e.number) × (source ≡ old_source) × (place ≡ old_place) × (len ≡ old_len)

-- the two values that a refusal carries; with an answer, and where it carries fewer, they are as they were
abbrev pub Carried : Answer → ℕ → ℕ → ℕ → ℕ → Type 0
Carried (as_given p bs) old_first first old_second second = (first ≡ old_first) × (second ≡ old_second)
Carried (in_maps p bs) old_first first old_second second = (first ≡ old_first) × (second ≡ old_second)
Carried (in_cache p bs) old_first first old_second second = (first ≡ old_first) × (second ≡ old_second)
Carried (turned_away e) old_first first old_second second =
    (first ≡ carried e 0 old_first) × (second ≡ carried e 1 old_second)
