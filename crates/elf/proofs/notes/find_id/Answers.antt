use Rattle.std.proofs.Common.{Ok, Err, sym, refl, ap, ◌∙◌, arith}
use Rattle.std.proofs.lemmas.Result.{err_from_is_err_and}
use Rattle.elf.specs.declared.notes.Note.TheVariants.{BuildId, Another}
use Rattle.elf.proofs.NoteRuns.{left_step, note_moves, notes_end}
use Rattle.elf.proofs.notes.find_id.Goals as goal

pub loop-at-init : goal.loop-at-init
loop-at-init c = (_, refl, omega arith)

pub returns-in_err-span : goal.returns-in_err-span
returns-in_err-span c =
    let left = left_step _ _ c.loop-at.invariant c.loop-at-test.true (Err c.in_err-span.field-0.0) c.in_err-span.ensures.value in
    record { value = (err_from_is_err_and _ c.from_residual.ensures.1).1 ∙ sym left.1 }

pub returns-in-BuildId : goal.returns-in-BuildId
returns-in-BuildId c =
    let left = left_step _ _ c.loop-at.invariant c.loop-at-test.true (Ok (BuildId c.in-BuildId.span)) (ap Ok (sym c.in-BuildId.is) ∙ c.in_ok-span.ensures.value) in
    record { value = sym left.1 }

pub loop-at-preserved : goal.loop-at-preserved
loop-at-preserved c =
    let left = left_step _ _ c.loop-at.invariant c.loop-at-test.true (Ok (Another c.in-Another.next)) (ap Ok (sym c.in-Another.is) ∙ c.in_ok-span.ensures.value) in
    let on = note_moves c.args.notes.now c.loop-at.at c.in-Another.next (ap Ok (sym c.in-Another.is) ∙ c.in_ok-span.ensures.value) in
    (left.0, left.1, omega (arith, left.2))

pub returns : goal.returns
returns c =
    let inv = c.loop-at.invariant in
    record { value = sym (inv.1 ∙ notes_end _ _ inv.0 c.loop-at-test.false) }
