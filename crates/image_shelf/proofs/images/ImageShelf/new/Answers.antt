use Rattle.std.proofs.Common.{◌≡◌, false, map, length, is_some, is_err, sym, ap, ◌∙◌, subst, arith}
use Rattle.std.proofs.lemmas.List.{take_all}
use Rattle.std.proofs.lemmas.Bool.{cond-false}
use Rattle.image_shelf.specs.Images.{AllLaid, file_in, first_outside}
use Rattle.image_shelf.proofs.Making.{all_laid, refused, same_files}
use Rattle.image_shelf.proofs.RowLaws.{has_rows}
use Rattle.image_shelf.proofs.images.ImageShelf.new.Goals as goal

-- the files are those of the rows, none of which points outside
items : goal.returns-clause-items
items c =
    let bytes = c.args.bytes.now in
    let rows = c.args.rows.now in
    let last = c.lay_out.new.rows in
    let all = take_all (length last) last (omega arith) in
    let test : is_some (first_outside bytes rows) ≡ false = sym (refused (first_outside bytes rows)) ∙ ap is_err (sym c.check.ensures.value) ∙ sym c.if-is_err.ensures.value in
    ap (map (file_in bytes)) all ∙ same_files bytes rows last c.lay_out.ensures.items ∙ sym (cond-false (is_some (first_outside bytes rows)) _ (map (file_in bytes) rows) test)

pub invariant_of-result-2-clause-laid : goal.invariant_of-result-2-clause-laid
invariant_of-result-2-clause-laid c =
    let bytes = c.args.bytes.now in
    let last = c.lay_out.new.rows in
    let all = take_all (length last) last (omega arith) in
    ∣ subst (AllLaid bytes) (sym all) (all_laid bytes c.args.rows.now last c.lay_out.ensures.items) ∣₁

pub returns-clause-items : goal.returns-clause-items
returns-clause-items c = items c

pub returns-clause-law : goal.returns-clause-law
returns-clause-law c = has_rows c.args.bytes.now c.args.rows.now _ (items c)
