use Rattle.proc_map.proofs.Cutting.{lines_of}
use Rattle.proc_map.proofs.lines.Lines.new.Goals as goal

pub returns-clause-law : goal.returns-clause-law
returns-clause-law c = lines_of c.args.maps.now
