-- The symbols of a table by their entries. Assumes nothing.
use Rattle.std.proofs.Common.{◌≡◌, ℕ, ◌+◌, ◌*◌, ◌<◌, ◌≤◌, List, [], length, Some, None, unwrap_or, sym, ap, ◌∙◌, ⊎_elim, arith}
use Rattle.std.specs.List.{slice_get}
use Rattle.std.proofs.lemmas.Bool.{cases_eq}
use Rattle.std.proofs.lemmas.List.FromFn.{length-map-range_with_len}
use Rattle.byte_parts.specs.Spans.{read_of, row_of}
use Rattle.byte_parts.proofs.Spans.{stretch_is, stretch_none, stretch_there}
use Rattle.elf.specs.Bounds.{TableInside}
use Rattle.elf.specs.Classes.{elf64}
use Rattle.elf.specs.Sections.{span_bytes, table_row}
use Rattle.elf.specs.Symbols.{symbol_model}
use Rattle.elf.specs.Tables.{listed}
use Rattle.elf.specs.declared.places.Places.{Places}
use Rattle.elf.specs.declared.symbol.SymbolTable.{SymbolTable}
use Rattle.byte_parts.proofs.Counting.{nth_counted, nth_uncounted}

module _ (p : Places) (xs : List ℕ) (t : SymbolTable) where
  pub unlisted : (at : ℕ) → t.count ≤ at → None ≡ slice_get (listed p xs t) at
  unlisted at past = sym (nth_uncounted (λ n. symbol_model p (span_bytes xs t.strings) (table_row xs t.place p.symbol_size n)) t.count at past)

  pub listed_length : length (listed p xs t) ≡ t.count
  listed_length = length-map-range_with_len (λ n. symbol_model p (span_bytes xs t.strings) (table_row xs t.place p.symbol_size n)) 1 t.count

  module _ (inside : TableInside p xs t) where
    -- the strings are those of the table
    pub strings_read : read_of xs t.strings ≡ span_bytes xs t.strings
    strings_read = ap (λ o. unwrap_or o []) (stretch_there xs t.strings.place t.strings.len inside.strings)

    -- an entry that is listed is there
    pub entry_there : (at : ℕ) → at < t.count → None ≡ row_of xs t.place p.symbol_size (at + 1) → ⊥
    entry_there at l none =
        let past = stretch_none xs (t.place + p.symbol_size * (at + 1)) p.symbol_size none in
        let fits = inside.rows (at + 1) (omega arith) (omega arith) in
        omega arith

    -- and says what the symbol at its place is
    pub entry_read : (at : ℕ) (bytes strings : List ℕ) → at < t.count → Some bytes ≡ row_of xs t.place p.symbol_size (at + 1) → strings ≡ read_of xs t.strings → Some (symbol_model p strings bytes) ≡ slice_get (listed p xs t) at
    entry_read at bytes strings l there e =
        let row = stretch_is xs (t.place + p.symbol_size * (at + 1)) p.symbol_size bytes there in
        ap (λ s. Some (symbol_model p s bytes)) (e ∙ strings_read)
        ∙ ap (λ b. Some (symbol_model p (span_bytes xs t.strings) b)) row.1
        ∙ sym (nth_counted (λ n. symbol_model p (span_bytes xs t.strings) (table_row xs t.place p.symbol_size n)) t.count at l)

-- a 64-bit image has at most a symbol for each of its bytes
pub few_symbols : (xs : List ℕ) (t : SymbolTable) → TableInside elf64 xs t → 24 * t.count ≤ length xs
few_symbols xs t inside =
    ⊎_elim
    (λ none. omega arith)
    (λ some. let last = inside.rows t.count (omega arith) (omega arith) in omega arith)
    (cases_eq t.count 0)
