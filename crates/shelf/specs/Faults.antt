-- Which refusal each fault is. Assumes nothing.
use Rattle.std.specs.Prelude.{ℕ, [], ◌∷◌, Some, None, Ok, Err, Option, Result}
use Rattle.byte_parts.specs.Refusals.{Refusal, refuse}
use Rattle.shelf.specs.declared.fault.ShelfFault.{ShelfFault}
use Rattle.shelf.specs.declared.fault.ShelfFault.TheVariants.{RowOutside}

-- the number and the values of each fault
abbrev pub shelf_refusal : ShelfFault → Refusal
shelf_refusal (RowOutside place) = refuse 33 (place ∷ [])

-- what a check answers of the first row that points outside, if there is one
abbrev pub verdict : Option ℕ → Result (Unit {0}) ShelfFault
verdict None = Ok tt
verdict (Some place) = Err (RowOutside place)
