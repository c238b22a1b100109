use Rattle.worked.proofs.Holding.{worked_examples_lem}
use Rattle.worked.proofs.worked_examples.Goals as goal

pub returns-clause-examples : goal.returns-clause-examples
returns-clause-examples c = worked_examples_lem
