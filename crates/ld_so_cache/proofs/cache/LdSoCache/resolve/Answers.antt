use Rattle.std.proofs.Common.{ℕ, List, inl, inr, arith}
use Rattle.library_name.specs.Names.{NamesKey}
use Rattle.ld_so_cache.specs.Cache.{Entry}
use Rattle.ld_so_cache.proofs.Entries.{numbers_done, numbers_more}
use Rattle.ld_so_cache.proofs.cache.LdSoCache.resolve.Goals as goal
use Rattle.ld_so_cache.proofs.cache.LdSoCache.resolve.Goals.{else-loop-number-test, then-loop-number-test+in_default+else-number-number-end}

pub loop-number-preserved : goal.loop-number-preserved
loop-number-preserved c =
    numbers_more
    (λ m. (k v : List ℕ) → Entry c.args.self.now.bytes.now m k v → NamesKey c.args.target.now k → ⊥)
    c.loop-number.number
    c.loop-number.invariant
    c.in_default.ensures.cases

pub returns-in-Some : goal.returns-in-Some
returns-in-Some c =
    let found = c.in-Some.ensures.cases in
    record {
      cases = (
        _,
        record {
          some = omega arith;
          within = omega arith;
          key = found.0;
          entry = found.1;
          names = found.2;
          first = λ m k v some l e n. c.loop-number.invariant m some l k v e n;
        },
        found.3,
      );
    }

pub returns : goal.returns
returns c =
    let none =
    numbers_done
    (λ m. (k v : List ℕ) → Entry c.args.self.now.bytes.now m k v → NamesKey c.args.target.now k → ⊥)
    c.loop-number.number
    c.args.self.now.entries
    c.loop-number.invariant
    (elim c.loop-number-test.branch [
      | else-loop-number-test w ↦ let past = w.loop-number-test.false in inl (omega arith)
      | then-loop-number-test+in_default+else-number-number-end w ↦ inr (w.in_default.ensures.cases, omega arith)
    ])
    in
    record { cases = λ m k v some l. none m some l k v }
