use Rattle.std.proofs.Common.{true, false, Some, sym, ap, ◌∙◌, subst, ⊎_elim, arith, rules}
use Rattle.std.proofs.lemmas.Bool.{cases_eq}
use Rattle.std.specs.Fn.{FnReturnsAt}
use Rattle.elf.specs.Sections.{nth_section}
use Rattle.elf.proofs.Numbering.{numbered_is}
use Rattle.elf.proofs.Scans.{scan_found, scan_none}
use Rattle.elf.proofs.sections.Sections.find.Goals as goal

pub loop-number-preserved : goal.loop-number-preserved
loop-number-preserved g c = λ j some l.
    let s = c.args.self in
    let nth = nth_section s.image.places s.image.bytes.now s.table in
    let here = numbered_is s.image.places s.image.bytes.now s.table s.inside c.loop-number.number c.loop-number.auto.number c.loop-number-test.true _ c.in_ok-section.ensures.value in
    let other : FnReturnsAt g.F.Fn c.args.test c.in_ok-section.section false = search rules in
    ⊎_elim
    (λ e. subst (λ n. FnReturnsAt g.F.Fn c.args.test (nth n) false) (sym e) (subst (λ x. FnReturnsAt g.F.Fn c.args.test x false) here other))
    (λ n. c.loop-number.invariant j some (omega arith))
    (cases_eq j c.loop-number.number)

pub returns-then-test : goal.returns-then-test
returns-then-test g c =
    let s = c.args.self in
    let nth = nth_section s.image.places s.image.bytes.now s.table in
    let here = numbered_is s.image.places s.image.bytes.now s.table s.inside c.loop-number.number c.loop-number.auto.number c.loop-number-test.true _ c.in_ok-section.ensures.value in
    let this : FnReturnsAt g.F.Fn c.args.test c.in_ok-section.section true = search rules in
    record {
      value = λ passes computes.
          ap Some here
          ∙ sym (scan_found nth passes s.table.count c.loop-number.number c.loop-number.auto.number c.loop-number-test.true (ap passes (sym here) ∙ sym (computes _ true this)) (λ j some l. sym (computes _ false (c.loop-number.invariant j some l))));
    }

pub returns : goal.returns
returns g c =
    let s = c.args.self in
    record {
      value = λ passes computes.
          sym (scan_none (nth_section s.image.places s.image.bytes.now s.table) passes s.table.count (λ j some l. sym (computes _ false (c.loop-number.invariant j some (omega arith)))));
    }
