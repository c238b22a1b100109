use Rattle.std.proofs.Common.{rules}
use Rattle.library_name.proofs.Stems.{decided_by_rest, file_by_rest, no_file}
use Rattle.library_name.proofs.names_file.Goals as goal

pub returns : goal.returns
returns c =
    record {
      value = decided_by_rest c.after_stem.result c.is_some_and.result c.after_stem.ensures.cases c.is_some_and.ensures (λ x h q. file_by_rest h _ (search rules)) no_file;
    }
