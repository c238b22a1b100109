use Rattle.std.proofs.Common.{rules}
use Rattle.elf.proofs.Insides.{header_inside}
use Rattle.elf.proofs.Laws.{lays_out}
use Rattle.elf.proofs.image.Image.read_layout.Goals as goal

pub invariant_of-sections : goal.invariant_of-sections
invariant_of-sections c = record { inside = header_inside c.args.self.places c.args.self.bytes.now _ c.in_ok-header.ensures.value }

pub returns-clause-law : goal.returns-clause-law
returns-clause-law c = lays_out c.args.self.places c.args.self.bytes.now _ (search rules)
