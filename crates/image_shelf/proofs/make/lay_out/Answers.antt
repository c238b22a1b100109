use Rattle.std.proofs.Common.{get_or, None, ap, ◌∙◌, arith}
use Rattle.std.proofs.lemmas.List.{get_or_default}
use Rattle.elf.specs.Classes.{elf64}
use Rattle.elf.specs.Layouts.{layout_of}
use Rattle.image_shelf.specs.declared.rows.ImageRow.{ImageRow}
use Rattle.image_shelf.proofs.Making.{laid_more, laid_all}
use Rattle.image_shelf.proofs.make.lay_out.Goals as goal

blank : ImageRow
blank = record { path = record { place = 0; len = 0 }; image = record { place = 0; len = 0 }; layout = None }

pub loop-row-preserved : goal.loop-row-preserved
unfolding blank
loop-row-preserved c =
    let bytes = c.args.bytes.now in
    let xs = c.args.rows.now in
    let ys = c.loop-row.row-items in
    let i = c.loop-row.row-index in
    let x = get_or ys i blank in
    laid_more bytes xs ys i x c.read_layout-row.result c.loop-row-test.true c.loop-row.invariant
    (get_or_default ys i blank x (omega arith))
    (c.read_layout-row.ensures.value
    ∙ ap (λ p. layout_of p c.elf64-image.result.bytes.now) c.elf64-image.ensures.places
    ∙ ap (layout_of elf64) (c.elf64-image.ensures.bytes ∙ c.part_or_empty.ensures.value))

pub returns : goal.returns
returns c =
    record { items = laid_all c.args.bytes.now c.args.rows.now c.loop-row.row-items c.loop-row.row-index c.loop-row-test.false c.loop-row.invariant }
