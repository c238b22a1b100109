use Rattle.std.proofs.Common.{◌+◌, ap, length, refl, ◌∙◌, arith}
use Rattle.std.proofs.lemmas.List.{take_rest}
use Rattle.proc_map.specs.Cursor.{lines_in}
use Rattle.proc_map.proofs.Cutting.{lines_last, lines_more}
use Rattle.proc_map.proofs.cursor.LinesIterator.next.Goals as goal

pub returns-in_default : goal.returns-in_default
returns-in_default c =
    let given = ap lines_in c.in_ok-place.was ∙ lines_last _ _ c.in_default.ensures.cases in
    let size = ap length given in
    record { steps = given; goes = record { on = λ _. (tt, tt, omega arith); keeps = tt; rests = λ _. tt } }

pub returns : goal.returns
returns c =
    let bytes = c.in_ok-place.field-0.bytes.now in
    let given = ap lines_in c.in_ok-place.was ∙ lines_more _ bytes _ _ _ c.in-Some.ensures.cases refl (take_rest bytes (c.in-Some.end + 1)) in
    let size = ap length given in
    record { steps = given; goes = record { on = λ _. (tt, tt, omega arith); keeps = tt; rests = λ _. tt } }
