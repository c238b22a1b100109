use Rattle.std.proofs.Common.{◌≡◌, ◌≤◌, length, take}
use Rattle.unix_path.specs.Paths.{pieces}
use Rattle.unix_path.proofs.piece.last_piece.Given as goal

abbrev pub invariant-loop-slash : goal.invariant-loop-slash
invariant-loop-slash l = (l.end ≤ length l.path) × (pieces (take l.end l.path) ≡ pieces l.path)

abbrev pub decreases-loop-slash : goal.decreases-loop-slash
decreases-loop-slash l = l.end
