use Rattle.std.proofs.Common.{ap, ◌∙◌, take, ◌-◌}
use Rattle.table.proofs.Used.{removed_moved}
use Rattle.table.proofs.table.Table.close_up.Goals as goal

pub returns-clause-items : goal.returns-clause-items
returns-clause-items g c =
    let table = c.args.self.now in
    ap (take (table.len - 1)) c.copy_within.ensures.after ∙ removed_moved table.rows.now c.args.place table.len c.requires.within table.ok
