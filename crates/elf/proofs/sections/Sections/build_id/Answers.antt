use Rattle.std.proofs.Common.{Some, sym, ap, ◌∙◌, rules}
use Rattle.elf.specs.Notes.{build_id}
use Rattle.elf.proofs.Numbering.{numbered_is}
use Rattle.elf.proofs.NoteSections.{id_here, id_later, id_malformed, more_notes, more_other, no_more}
use Rattle.elf.proofs.sections.Sections.build_id.Goals as goal
use Rattle.elf.proofs.sections.Sections.build_id.Goals.{then-eq+in_ok-id+in_default, else-eq}

pub returns-in_err-id : goal.returns-in_err-id
returns-in_err-id c =
    let p = c.args.self.image.places in
    let xs = c.args.self.image.bytes.now in
    let t = c.args.self.table in
    let n = c.loop-number.number in
    let some = c.loop-number.auto.number in
    let l = c.loop-number-test.true in
    let here = numbered_is p xs t c.args.self.inside n some l _ c.in_ok-section.ensures.value in
    let more = more_notes p xs t n some l _ here (search rules) _ c.notes_in_section.ensures.value in
    let none = id_malformed c.notes_in_section.result _ (sym c.ok.ensures.value ∙ c.in_err-id.was) in
    record { value = c.from_residual-in_err-id.ensures ∙ sym (ap build_id (c.loop-number.invariant ∙ more) ∙ none) }

pub returns-in-Some : goal.returns-in-Some
returns-in-Some c =
    let p = c.args.self.image.places in
    let xs = c.args.self.image.bytes.now in
    let t = c.args.self.table in
    let n = c.loop-number.number in
    let some = c.loop-number.auto.number in
    let l = c.loop-number-test.true in
    let here = numbered_is p xs t c.args.self.inside n some l _ c.in_ok-section.ensures.value in
    let more = more_notes p xs t n some l _ here (search rules) _ c.notes_in_section.ensures.value in
    let here = id_here c.notes_in_section.result _ c.in-Some.id (sym c.ok.ensures.value ∙ c.in_ok-id.was ∙ ap Some c.in-Some.is) in
    record { value = sym (ap build_id (c.loop-number.invariant ∙ more) ∙ here) }

pub loop-number-preserved : goal.loop-number-preserved
loop-number-preserved c =
    let p = c.args.self.image.places in
    let xs = c.args.self.image.bytes.now in
    let t = c.args.self.table in
    let n = c.loop-number.number in
    let some = c.loop-number.auto.number in
    let l = c.loop-number-test.true in
    let here = numbered_is p xs t c.args.self.inside n some l _ c.in_ok-section.ensures.value in
    elim c.if-eq.branch [
      | then-eq+in_ok-id+in_default w ↦
          c.loop-number.invariant
          ∙ more_notes p xs t n some l _ here (search rules) _ w.notes_in_section.ensures.value
          ∙ id_later w.notes_in_section.result _ (sym w.ok.ensures.value ∙ w.in_ok-id.was ∙ ap Some w.in_default.is)
      | else-eq w ↦ c.loop-number.invariant ∙ more_other p xs t n some l _ here (search rules)
    ]

pub returns : goal.returns
returns c =
    record { value = sym (ap build_id (c.loop-number.invariant ∙ no_more c.args.self.image.places c.args.self.image.bytes.now c.args.self.table c.loop-number.number c.loop-number.auto.number c.loop-number-test.false)) }
