-- The number of each refusal. Assumes nothing.
use Rattle.std.specs.Prelude.{ℕ, List, [], ◌∷◌}
use Rattle.uprobes.specs.declared.explain.Refusal.{Refusal}
use Rattle.uprobes.specs.declared.explain.Refusal.TheVariants.{AddressNotInSection, FileOffsetOverflow, MapsLine, CacheTruncated, CacheHeader, CacheString, MapsUnreadable, CacheUnreadable, NoSuchTarget, RowOutside}

abbrev pub number_of : Refusal → ℕ
number_of AddressNotInSection = 1
number_of FileOffsetOverflow = 2
number_of MapsLine = 3
number_of CacheTruncated = 4
number_of CacheHeader = 5
number_of CacheString = 6
number_of MapsUnreadable = 7
number_of CacheUnreadable = 8
number_of NoSuchTarget = 9
number_of RowOutside = 33

-- all refusals, in the order of their numbers
abbrev pub every : List Refusal
every = AddressNotInSection ∷ FileOffsetOverflow ∷ MapsLine ∷ CacheTruncated ∷ CacheHeader ∷ CacheString ∷ MapsUnreadable ∷ CacheUnreadable ∷ NoSuchTarget ∷ RowOutside ∷ []
