-- What a cursor has still to give. Assumes nothing.
use Rattle.std.specs.Prelude.{List, [], Some, None, Option}
use Rattle.byte_parts.specs.Cut.{cut}
use Rattle.byte_parts.specs.declared.part.Part.{Part}
use Rattle.proc_map.specs.declared.lines.Lines.{Lines}
use Rattle.proc_map.specs.Maps.{Line, placed}

abbrev pub line_of : Part → Line
line_of l = record { place = l.place; bytes = l.bytes.now }

-- the lines of what is left
abbrev pub lines_in : Option Part → List Line
lines_in None = []
lines_in (Some p) = placed p.place (cut 10 p.bytes.now)

abbrev pub lines_left : Lines → List Line
lines_left c = lines_in c.left
