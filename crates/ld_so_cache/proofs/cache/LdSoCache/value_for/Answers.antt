use Rattle.std.proofs.Common.{subst}
use Rattle.std.proofs.lemmas.Bool.Decides.{not_from_Decides}
use Rattle.library_name.specs.Names.{NamesKey}
use Rattle.ld_so_cache.proofs.Entries.{no_key_string, no_value_string, key_is}
use Rattle.ld_so_cache.proofs.cache.LdSoCache.value_for.Goals as goal

pub returns-in_err-key : goal.returns-in_err-key
returns-in_err-key c =
    record { cases = rw c.from_residual-in_err-key.ensures (λ k v e _. no_key_string c.in_ok-fields.ensures.cases c.in_err-key.ensures.cases e) }

pub returns-then-not-names_key : goal.returns-then-not-names_key
returns-then-not-names_key c =
    record {
      cases = λ k v e n.
          let same = key_is c.in_ok-fields.ensures.cases c.in_ok-key.ensures.cases e in
          not_from_Decides _ c.names_key.ensures.value c.if-not-names_key.true (subst (NamesKey c.args.target.now) same n);
    }

pub returns-in_err-value : goal.returns-in_err-value
returns-in_err-value c =
    record { cases = rw c.from_residual-in_err-value.ensures (λ k v e _. no_value_string c.in_ok-fields.ensures.cases c.in_err-value.ensures.cases e) }
