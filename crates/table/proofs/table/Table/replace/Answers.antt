use Rattle.std.proofs.Common.{refl, arith}
use lib.Seq.{take-set-lt}
use Rattle.std.proofs.lemmas.List.{length-set}
use Rattle.table.proofs.Used.{length_rows}
use Rattle.table.proofs.table.Table.replace.Goals as goal

pub returns-then-place-self : goal.returns-then-place-self
returns-then-place-self g c =
    let n = length_rows c.args.self.now in
    record {
      value = c.get-old.ensures.value;
      items = take-set-lt c.args.self.now.len c.args.self.now.rows.now c.args.place c.args.row c.if-place-self.true;
      same = λ past. let no : ⊥ = omega arith in elim no [ ];
      memory = record { capacity = length-set c.args.self.now.rows.now c.args.place c.args.row; lent = refl {a = c.args.self.now.rows.ghost_name} };
    }
