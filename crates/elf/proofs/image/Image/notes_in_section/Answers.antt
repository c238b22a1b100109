use Rattle.std.proofs.Common.{◌+◌, ◌≤◌, length, drop, Ok, sym, ap, ◌∙◌, subst, arith}
use Rattle.std.specs.Option.{option_map}
use Rattle.std.proofs.lemmas.List.{length-drop, length-take}
use Rattle.byte_parts.proofs.Spans.{stretch_is}
use Rattle.elf.proofs.NoteRuns.{Within, notes_within}
use Rattle.elf.proofs.image.Image.notes_in_section.Goals as goal

pub map-requires : goal.map-requires
map-requires c = λ id is _ _ _ _ _.
    let image = c.args.self.bytes.now in
    let span = c.in_ok-span.span in
    let notes = c.in_ok-notes.notes.now in
    let there = stretch_is image span.place span.len notes (sym (ap (option_map (λ x. x.now)) c.in_ok-notes.ensures.ok_part) ∙ c.part.ensures.value) in
    let long = ap length there.1 ∙ length-take span.len (drop span.place image) in
    let left = length-drop span.place image in
    let inside : id.place + id.len ≤ length notes = subst (Within (length notes)) (sym c.in_ok-id.ensures.value ∙ ap Ok is) (notes_within notes) in
    omega (arith, there.0)
