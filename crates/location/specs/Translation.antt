-- From an address in memory to a place in the file, by the ELF specification's sh_addr and sh_offset. Assumes nothing.
use Rattle.std.specs.Prelude.{ℕ, ◌+◌, ◌-◌, ◌^◌, cond, [], ◌∷◌, Ok, Err, Result, nat_lt}
use Rattle.byte_parts.specs.Refusals.{Refusal, refuse}
use Rattle.location.specs.declared.FileOffset.{FileOffset}
use Rattle.location.specs.declared.LocationFault.{LocationFault}
use Rattle.location.specs.declared.LocationFault.TheVariants.{AddressNotInSection, FileOffsetOverflow}

-- the number and the values of each fault
abbrev pub location_refusal : LocationFault → Refusal
location_refusal (AddressNotInSection a s o) = refuse 1 (a.0 ∷ s.0 ∷ o.0 ∷ [])
location_refusal (FileOffsetOverflow a s o) = refuse 2 (a.0 ∷ s.0 ∷ o.0 ∷ [])

-- an answer as its reader sees it
abbrev pub outcome : Result FileOffset LocationFault → Result ℕ Refusal
outcome (Ok f) = Ok f.0
outcome (Err e) = Err (location_refusal e)

-- the address less the section's address plus the section's offset
abbrev pub translated : ℕ → ℕ → ℕ → Result ℕ Refusal
translated address section offset =
    cond (nat_lt address section) (Err (refuse 1 (address ∷ section ∷ offset ∷ [])))
    (cond (nat_lt (address - section + offset) (2 ^ 64)) (Ok (address - section + offset)) (Err (refuse 2 (address ∷ section ∷ offset ∷ []))))
