use Rattle.std.proofs.Common.{length, take, sym, ap, ◌∙◌, arith}
use Rattle.std.specs.List.{slice_get}
use Rattle.std.proofs.lemmas.List.{length-take-le}
use Rattle.shelf.specs.Questions.{ask}
use Rattle.shelf.proofs.Asks.{mapped_some, some_same}
use Rattle.shelf.proofs.Copies.{copy_all, copy_more}
use Rattle.shelf.proofs.files.Shelf.copy_name.Goals as goal

pub loop-at-preserved : goal.loop-at-preserved
loop-at-preserved g c = λ name is.
    let found = mapped_some length _ _ c.in_ok-len.ensures.value in
    let long = found.2 ∙ ap length (some_same found.0 name (sym found.1 ∙ is)) in
    let room = c.if-len-out.false in
    let front = length-take-le c.in_ok-len.len c.args.out.now room in
    let l = c.loop-at-test.true in
    copy_more name (take c.in_ok-len.len c.args.out.now) c.loop-at.slot-items c.loop-at.at _ (omega arith) l
    (c.in-Some.ensures.value ∙ ap (λ o. ask o (λ s. slice_get s c.loop-at.at)) is)
    (c.loop-at.invariant name is)

pub returns-clause-after : goal.returns-clause-after
returns-clause-after g c =
    let name = mapped_some length _ _ c.in_ok-len.ensures.value in
    let room = c.if-len-out.false in
    let front = length-take-le c.in_ok-len.len c.args.out.now room in
    let end = c.loop-at-test.false in
    let same = name.2 in
    copy_all _ name.0 c.args.out.now name.1 c.loop-at.slot-items c.in_ok-len.len c.loop-at.at same (omega arith) (omega arith) (c.loop-at.invariant name.0 name.1)
