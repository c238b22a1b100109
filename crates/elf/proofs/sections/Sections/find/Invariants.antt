use Rattle.std.proofs.Common.{ℕ, ◌<◌, ◌≤◌, false}
use Rattle.std.specs.Fn.{FnReturnsAt}
use Rattle.elf.specs.Sections.{nth_section}
use Rattle.elf.proofs.sections.Sections.find.Given as goal

abbrev pub invariant-loop-number : goal.invariant-loop-number
invariant-loop-number g l =
    (j : ℕ) → 1 ≤ j → j < l.number → FnReturnsAt g.F.Fn l.test (nth_section l.self.image.places l.self.image.bytes.now l.self.table j) false
