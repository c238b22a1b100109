use Rattle.std.specs.List.{AllByRecursion}
use Rattle.byte_parts.specs.Parts.{PartOf}
use Rattle.proc_map.specs.Cursor.{lines_left}
use Rattle.proc_map.specs.Maps.{map_lines}
use Rattle.proc_map.specs.Search.{Found, LooksUp}
use Rattle.proc_map.proofs.find.find_library_path_by_name.Given as goal

-- what the lines left answer is what all lines answer, and each of them stands in the maps
abbrev pub invariant-loop-line : goal.invariant-loop-line
invariant-loop-line l =
    ((a : Found) → LooksUp l.target (lines_left l.line-iterator) a → LooksUp l.target (map_lines l.maps) a)
    × AllByRecursion (λ x. PartOf l.maps x.place x.bytes) (lines_left l.line-iterator)
