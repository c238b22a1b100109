use Rattle.std.proofs.Common.{inl, inr, refl, arith}
use Rattle.std.proofs.lemmas.Grind.{merely}
use Rattle.ld_so_cache.specs.Cache.{Whole}
use Rattle.ld_so_cache.proofs.Entries.{numbers_done, numbers_more}
use Rattle.ld_so_cache.proofs.cache.LdSoCache.parse.Goals as goal
use Rattle.ld_so_cache.proofs.cache.LdSoCache.parse.Goals.{else-loop-number-test, then-loop-number-test+in_ok-check_entry+else-number-entries}

pub loop-number-preserved : goal.loop-number-preserved
loop-number-preserved c =
    numbers_more (Whole c.args.bytes.now) c.loop-number.number c.loop-number.invariant c.in_ok-check_entry.ensures.cases

pub invariant_of-result : goal.invariant_of-result
invariant_of-result c =
    let read = c.in_ok-entries.ensures.cases in
    let all = numbers_done (Whole c.args.bytes.now) c.loop-number.number c.in_ok-entries.entries c.loop-number.invariant
    (elim c.loop-number-test.branch [
      | else-loop-number-test w ↦ inl w.loop-number-test.false
      | then-loop-number-test+in_ok-check_entry+else-number-entries w ↦ inr (w.in_ok-check_entry.ensures.cases, omega arith)
    ])
    in
    record { good = merely (record { header = read.0; entries = λ n some l. all n some (omega arith) }); counted = read.1 }

pub returns : goal.returns
returns c =
    let read = c.in_ok-entries.ensures.cases in
    let all = numbers_done (Whole c.args.bytes.now) c.loop-number.number c.in_ok-entries.entries c.loop-number.invariant
    (elim c.loop-number-test.branch [
      | else-loop-number-test w ↦ inl w.loop-number-test.false
      | then-loop-number-test+in_ok-check_entry+else-number-entries w ↦ inr (w.in_ok-check_entry.ensures.cases, omega arith)
    ])
    in
    record { cases = (record { header = read.0; entries = λ n some l. all n some (omega arith) }, refl, read.1) }
