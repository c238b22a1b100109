use Rattle.std.proofs.Common.{sym}
use Rattle.std.proofs.lemmas.List.{take_rest}
use Rattle.byte_parts.proofs.Strings.{string_here, no_string}
use Rattle.byte_parts.proofs.StringAnswers.{string_in_is, string_in_none}
use Rattle.byte_parts.proofs.fields.string_at.Goals as goal

pub returns-in_err-len : goal.returns-in_err-len
returns-in_err-len c =
    let none = no_string _ _ (rw (take_rest c.args.bytes.now c.args.place) at (rw c.in_ok-from.ensures.lookup.0.2 at c.in_err-len.ensures.cases)) in
    record { cases = rw c.from_residual-in_err-len.ensures none; value = rw c.from_residual-in_err-len.ensures (sym (string_in_none _ _ none)) }

pub returns : goal.returns
returns c =
    let there = string_here _ _ _ (rw (take_rest c.args.bytes.now c.args.place) at (rw c.in_ok-from.ensures.lookup.0.2 at c.in_ok-len.ensures.cases)) in
    rw (c.in_ok-from.ensures.lookup.0.2, take_rest c.args.bytes.now c.args.place) (record { cases = there; value = sym (string_in_is there) })
