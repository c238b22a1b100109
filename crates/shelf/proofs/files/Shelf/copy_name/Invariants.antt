use Rattle.std.proofs.Common.{◌≡◌, ℕ, List, ◌++◌, take, drop, Some}
use Rattle.shelf.specs.Questions.{name_of}
use Rattle.shelf.proofs.files.Shelf.copy_name.Given as goal

abbrev pub invariant-loop-at : goal.invariant-loop-at
invariant-loop-at g l =
    (name : List ℕ) → name_of (g.Self.Shelf.files l.self) l.file l.symbol ≡ Some name → l.slot-items ≡ take l.at name ++ drop l.at l.initial.slot-items
