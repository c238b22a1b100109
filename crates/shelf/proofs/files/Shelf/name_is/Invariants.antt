use Rattle.std.proofs.Common.{◌≡◌, ℕ, ◌<◌, get_or, Some}
use Rattle.shelf.specs.Questions.{name_byte}
use Rattle.shelf.proofs.files.Shelf.name_is.Given as goal

abbrev pub invariant-loop-at : goal.invariant-loop-at
invariant-loop-at g l = (k : ℕ) → k < l.at → name_byte (g.Self.Shelf.files l.self) l.file l.symbol k ≡ Some (get_or l.name k 0)
