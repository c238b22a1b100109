use Rattle.std.proofs.Common.{eqb, sym, ◌∙◌}
use Rattle.table.proofs.Firsts.{no_row_found, row_found}
use Rattle.listed_shelf.proofs.sections.section_in.Goals as goal

pub returns-in_err-find : goal.returns-in_err-find
returns-in_err-find c =
    rw c.from_residual.ensures (record { value = sym (no_row_found (λ s. eqb s.number c.args.number) c.args.sections.now c.in_err-find.ensures.cases) })

pub returns : goal.returns
returns c =
    record { value = c.row_at.ensures.value ∙ row_found (λ s. eqb s.number c.args.number) c.args.sections.now c.in_ok-find.field-0 c.in_ok-find.ensures.cases }
