use Rattle.std.proofs.lemmas.List.{take_rest}
use Rattle.proc_map.proofs.Ranges.{range_dash, range_starts, range_stops}
use Rattle.proc_map.proofs.words.address_range.Goals as goal

pub returns-in_err-dash : goal.returns-in_err-dash
returns-in_err-dash c =
    rw c.from_residual.ensures (record { cases = λ low high r. range_dash r c.in_err-dash.ensures.cases })

pub returns-in_err-start : goal.returns-in_err-start
returns-in_err-start c =
    let none = c.in_err-start.ensures.cases in
    rw c.from_residual-in_err-start.ensures
    (record { cases = λ low high r. none low (range_starts r _ c.in_ok-dash.ensures.cases) })

pub returns-in_err-end : goal.returns-in_err-end
returns-in_err-end c =
    let none = rw take_rest at c.in_err-end.ensures.cases in
    rw c.from_residual-in_err-end.ensures
    (record { cases = λ low high r. none high (range_stops r _ c.in_ok-dash.ensures.cases) })
