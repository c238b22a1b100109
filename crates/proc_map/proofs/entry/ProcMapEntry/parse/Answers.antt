use Rattle.proc_map.proofs.Reading.{reads_once}
use Rattle.proc_map.proofs.entry.ProcMapEntry.parse.Goals as goal

pub returns-clause-once : goal.returns-clause-once
returns-clause-once c = reads_once
