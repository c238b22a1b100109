use Rattle.std.proofs.Common.{Some, sym, ap, ◌∙◌, arith}
use Rattle.image_shelf.proofs.SectionNumbers.{place_none, place_gone, place_found}
use Rattle.image_shelf.proofs.sections.section_in_order.Goals as goal

pub returns-then-place-sections : goal.returns-then-place-sections
returns-then-place-sections c =
    let s = c.args.sections in
    let past = c.if-place-sections.true in
    record { value = sym (place_none s.image.places s.image.bytes.now s.table s.inside c.args.place (omega arith)) }

pub returns-in_err-header : goal.returns-in_err-header
returns-in_err-header c =
    let s = c.args.sections in
    record { value = c.from_residual.ensures ∙ sym (place_gone s.image.places s.image.bytes.now s.table s.inside c.args.place c.in_err-header.ensures.value) }

pub returns : goal.returns
returns c =
    let s = c.args.sections in
    record { value = ap Some c.section_from.ensures.value ∙ sym (place_found s.image.places s.image.bytes.now s.table s.inside c.args.place _ c.in_ok-header.ensures.value) }
