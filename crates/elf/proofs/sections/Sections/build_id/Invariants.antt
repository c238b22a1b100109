use Rattle.std.proofs.Common.{◌≡◌, ◌-◌, drop}
use Rattle.elf.specs.Notes.{notes_of}
use Rattle.elf.specs.Sections.{sections}
use Rattle.elf.proofs.sections.Sections.build_id.Given as goal

abbrev pub invariant-loop-number : goal.invariant-loop-number
invariant-loop-number l = notes_of l.self.image.bytes.now (sections l.self.image.places l.self.image.bytes.now l.self.table) ≡ notes_of l.self.image.bytes.now (drop (l.number - 1) (sections l.self.image.places l.self.image.bytes.now l.self.table))
