use Rattle.std.proofs.Common.{eqb, ap, ◌∙◌}
use Rattle.std.specs.List.{find}
use Rattle.elf.specs.Classes.{elf64}
use Rattle.elf.specs.Layouts.{section_models}
use Rattle.shelf.specs.Questions.{ask}
use Rattle.image_shelf.proofs.questions.ImageShelfShelf.section.Goals as goal

pub returns : goal.returns
returns c =
    let s = c.sections.result in
    record {
      value =
          c.numbered_section.ensures.value
          ∙ ap (λ p. find (λ x. eqb x.number c.args.number) (section_models p s.image.bytes.now s.table)) c.sections.ensures.places
          ∙ ap (λ xs. find (λ x. eqb x.number c.args.number) (section_models elf64 xs s.table)) c.sections.ensures.bytes
          ∙ ap (λ t. find (λ x. eqb x.number c.args.number) (section_models elf64 c.in_ok-object.field-0.image.now t)) c.sections.ensures.table
          ∙ ap (λ o. ask o (λ m. find (λ x. eqb x.number c.args.number) m.sections)) c.in_ok-object.ensures.value;
    }
