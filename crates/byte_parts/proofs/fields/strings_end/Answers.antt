use Rattle.std.proofs.Common.{sym}
use Rattle.byte_parts.proofs.StringEnds.{ends_after_last, ends_at_start, strings_end_last, strings_end_none}
use Rattle.byte_parts.proofs.fields.strings_end.Goals as goal

pub returns-in-Some : goal.returns-in-Some
returns-in-Some c =
    let last = c.in-Some.ensures.cases in
    record { value = sym (strings_end_last _ _ last); ends = ends_after_last _ _ last }

pub returns-in-None : goal.returns-in-None
returns-in-None c =
    let none = c.in-None.ensures.cases in
    record { value = sym (strings_end_none _ none); ends = ends_at_start _ none }
