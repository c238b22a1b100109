-- The rows in use of a table, after a row is taken out of their list. Assumes nothing.
use Rattle.std.proofs.Common.{◌≡◌, ℕ, suc, ◌+◌, ◌-◌, ◌<◌, ◌≤◌, List, ◌++◌, length, take, drop, sym, ap, ◌∙◌, arith}
use Rattle.std.specs.List.{remove, copy_within}
use Rattle.std.proofs.lemmas.List.{drop-take, length-drop, length-take-le, take-take}
use Rattle.std.proofs.lemmas.List.Edits.{take-paste}
use Rattle.table.specs.declared.table.Table.{Table}
use Rattle.table.specs.Contents.{rows_of}

-- as many rows are in use as the table says
pub length_rows : {R : Type 0} (t : Table R) → length (rows_of t) ≡ t.len
length_rows t = length-take-le t.len t.rows.now t.ok

module _ {R : Type 0} where
  -- the rows in use after the rows behind a place were copied to it
  pub removed_moved : (xs : List R) (i n : ℕ) → i < n → n ≤ length xs → take (n - 1) (copy_within xs (i + 1) n i) ≡ remove (take n xs) i
  removed_moved xs i n l fits =
      let m : ℕ = n - (i + 1) in
      let last : n - 1 ≡ i + m = omega arith in
      let whole : i + 1 + m ≡ n = omega arith in
      let next : i + 1 ≡ suc i = omega arith in
      let left = length-drop (i + 1) xs in
      ap (λ k. take k (copy_within xs (i + 1) n i)) last
      ∙ take-paste xs i (drop (i + 1) xs) m (omega arith) (omega arith)
      ∙ ap (λ a. a ++ take m (drop (i + 1) xs)) (sym (take-take i n xs (omega arith)))
      ∙ ap (λ b. take i (take n xs) ++ b) (sym (drop-take (i + 1) m xs) ∙ ap (λ k. drop (i + 1) (take k xs)) whole)
      ∙ ap (λ k. take i (take n xs) ++ drop k (take n xs)) next
