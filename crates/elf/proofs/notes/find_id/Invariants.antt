use Rattle.std.proofs.Common.{◌-◌, length}
use Rattle.elf.proofs.NoteRuns.{Left}
use Rattle.elf.proofs.notes.find_id.Given as goal

abbrev pub invariant-loop-at : goal.invariant-loop-at
invariant-loop-at l = Left l.notes l.at

abbrev pub decreases-loop-at : goal.decreases-loop-at
decreases-loop-at l = length l.notes - l.at
