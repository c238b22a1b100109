use Rattle.std.proofs.Common.{Some, sym, ap, ◌∙◌}
use Rattle.image_shelf.proofs.SectionNumbers.{number_none, number_found}
use Rattle.image_shelf.proofs.sections.numbered_section.Goals as goal

pub returns-in_err-header : goal.returns-in_err-header
returns-in_err-header c =
    let s = c.args.sections in
    record { value = c.from_residual.ensures ∙ sym (number_none s.image.places s.image.bytes.now s.table s.inside c.args.number c.in_err-header.ensures.value) }

pub returns : goal.returns
returns c =
    let s = c.args.sections in
    record { value = ap Some c.section_from.ensures.value ∙ sym (number_found s.image.places s.image.bytes.now s.table s.inside c.args.number _ c.in_ok-header.ensures.value) }
