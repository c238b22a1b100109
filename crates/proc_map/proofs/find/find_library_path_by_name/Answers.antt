use Rattle.std.proofs.Common.{sym, subst, arith}
use Rattle.std.specs.List.{AllByRecursion}
use Rattle.byte_parts.specs.Parts.{PartOf}
use Rattle.proc_map.specs.Cursor.{line_of, lines_left}
use Rattle.proc_map.specs.Search.{LooksUp}
use Rattle.proc_map.proofs.Finding.{path_stands, passed, looks_up_once}
use Rattle.proc_map.proofs.find.find_library_path_by_name.Goals as goal

pub path_in_maps-requires : goal.path_in_maps-requires
path_in_maps-requires c =
    let fits = (path_stands c.args.maps.now c.loop-line.invariant.1 c.in-Some.ensures.steps c.in_ok-entry.ensures.cases c.in-Some-named_path.ensures.cases.has).within in
    omega arith

pub returns-in-Some-named_path-clause-once : goal.returns-in-Some-named_path-clause-once
returns-in-Some-named_path-clause-once c = looks_up_once

pub returns-in-Some-named_path-clause-part : goal.returns-in-Some-named_path-clause-part
returns-in-Some-named_path-clause-part c =
    rw (c.path_in_maps.ensures.place, c.path_in_maps.ensures.bytes)
    (path_stands c.args.maps.now c.loop-line.invariant.1 c.in-Some.ensures.steps c.in_ok-entry.ensures.cases c.in-Some-named_path.ensures.cases.has)

pub returns-in_err-entry-clause-once : goal.returns-in_err-entry-clause-once
returns-in_err-entry-clause-once c = looks_up_once

pub returns-clause-once : goal.returns-clause-once
returns-clause-once c = looks_up_once

pub loop-line-preserved : goal.loop-line-preserved
loop-line-preserved c =
    let target = c.args.target.now in
    let maps = c.args.maps.now in
    let left = lines_left c.next.new.self in
    let lines = c.in-Some.ensures.steps in (
      λ a h. c.loop-line.invariant.0 a (subst (λ ls. LooksUp target ls a) (sym lines) (passed (line_of c.in-Some.line) left a c.in_ok-entry.ensures.cases c.in_default.ensures.cases h)),
      (subst (AllByRecursion (λ x. PartOf maps x.place x.bytes)) lines c.loop-line.invariant.1).1,
    )
