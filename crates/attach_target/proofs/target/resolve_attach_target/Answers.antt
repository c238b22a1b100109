use Rattle.attach_target.proofs.Once.{resolves_once}
use Rattle.attach_target.proofs.target.resolve_attach_target.Goals as goal

pub returns-then-not-is_basename_only-clause-once : goal.returns-then-not-is_basename_only-clause-once
returns-then-not-is_basename_only-clause-once c = resolves_once

pub returns-in_err-path-clause-once : goal.returns-in_err-path-clause-once
returns-in_err-path-clause-once c = resolves_once

pub returns-in-Some-clause-once : goal.returns-in-Some-clause-once
returns-in-Some-clause-once c = resolves_once

pub returns-in_err-path-2-clause-once : goal.returns-in_err-path-2-clause-once
returns-in_err-path-2-clause-once c = resolves_once

pub returns-clause-once : goal.returns-clause-once
returns-clause-once c = resolves_once
