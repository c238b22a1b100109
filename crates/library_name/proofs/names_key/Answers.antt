use Rattle.std.proofs.Common.{rules}
use Rattle.std.proofs.lemmas.Bool.Decides.{Decides-eqb, not_from_Decides}
use Rattle.std.proofs.lemmas.Slice.Eq.{slice_eq-Decides}
use Rattle.library_name.specs.Names.{dot_so}
use Rattle.library_name.proofs.Stems.{decided_by_rest, key_by_rest, no_key, starts_decides}
use Rattle.library_name.proofs.names_key.Goals as goal

pub returns-else-eq : goal.returns-else-eq
returns-else-eq c =
    let other = not_from_Decides _ (slice_eq-Decides Decides-eqb _ _ _ c.eq.ensures) c.if-eq.false in
    record {
      value = decided_by_rest c.after_stem.result c.is_some_and.result c.after_stem.ensures.cases c.is_some_and.ensures (λ x h q. key_by_rest h _ other (starts_decides _ dot_so _ (search rules))) (λ n. no_key n other);
    }
