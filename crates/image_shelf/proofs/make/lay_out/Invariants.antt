use Rattle.std.proofs.Common.{◌≡◌, ◌++◌, map, take, drop}
use Rattle.image_shelf.specs.Images.{with_layout}
use Rattle.image_shelf.proofs.make.lay_out.Given as goal

abbrev pub invariant-loop-row : goal.invariant-loop-row
invariant-loop-row l = l.row-items ≡ map (with_layout l.bytes) (take l.row-index l.fn.rows) ++ drop l.row-index l.fn.rows
