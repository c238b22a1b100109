use Rattle.std.proofs.Common.{arith}
use Rattle.ld_so_cache.proofs.Entries.{no_bad, no_key_string, no_value_string}
use Rattle.ld_so_cache.proofs.cache.LdSoCache.entry.Goals as goal

pub returns-in_err-fields : goal.returns-in_err-fields
returns-in_err-fields c =
    let cache = c.args.self.now in
    absurd (no_bad cache.good cache.counted (omega arith) (omega arith) (λ w. c.in_err-fields.ensures.cases w.2.room))

pub returns-in_err-key : goal.returns-in_err-key
returns-in_err-key c =
    let cache = c.args.self.now in
    absurd (no_bad cache.good cache.counted (omega arith) (omega arith) (λ w. no_key_string c.in_ok-fields.ensures.cases c.in_err-key.ensures.cases w.2))

pub returns-in_err-value : goal.returns-in_err-value
returns-in_err-value c =
    let cache = c.args.self.now in
    absurd (no_bad cache.good cache.counted (omega arith) (omega arith) (λ w. no_value_string c.in_ok-fields.ensures.cases c.in_err-value.ensures.cases w.2))
