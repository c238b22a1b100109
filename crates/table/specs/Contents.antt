-- What a table holds. Assumes nothing.
use Rattle.std.specs.Prelude.{◌≡◌, ℕ, List, length, take}
use Rattle.table.specs.declared.table.Table.{Table}

-- the rows in use, in order; the spare rows after them are no part of what a table says
abbrev pub rows_of : {R : Type 0} → Table R → List R
rows_of t = take t.len t.rows.now

-- how many rows there is room for
abbrev pub room : {R : Type 0} → Table R → ℕ
room t = length t.rows.now

-- the rows stand in the memory that they stood in, so that there is as much room
pub record SameMemory {R : Type 0} (old new : Table R) : Type 0 where
  pub capacity : room new ≡ room old
  pub lent : new.rows.ghost_name ≡ old.rows.ghost_name
