-- What lies where a layout says lies inside the image. Assumes nothing.
use Rattle.std.proofs.Common.{◌≡◌, ℕ, ◌+◌, ◌-◌, ◌*◌, ◌/◌, ◌<◌, ◌≤◌, true, leb, List, length, Some, None, Option, sym, refl, ap, subst, ⊎_elim, mul-le-mul_left, mul-one, mul-add, arith}
use native.Mathlib.Nat.{mul-div-le}
use Rattle.std.proofs.lemmas.Bool.{and_parts, cond_both, eqb-true, leb-true, or_cases}
use Rattle.byte_parts.specs.Fields.{strings_end}
use Rattle.std.specs.List.{find}
use Rattle.byte_parts.specs.declared.span.Span.{Span}
use Rattle.shelf.proofs.Asks.{ask_some, cond_some, some_same}
use Rattle.elf.specs.Bounds.{LaidInside, TableInside}
use Rattle.elf.specs.Headers.{header_of, is_image, section_table, table_fits}
use Rattle.elf.specs.Layouts.{layout_of, names_of}
use Rattle.elf.specs.Sections.{Inside, numbered, occupied, sections, span_bytes}
use Rattle.elf.specs.Tables.{no_symbols, symbol_table, table_from, table_of, whole_entries}
use Rattle.elf.specs.declared.header.Header.{Header}
use Rattle.elf.specs.declared.header.SectionTable.{SectionTable}
use Rattle.elf.specs.declared.layout.Layout.{Layout}
use Rattle.elf.specs.declared.places.Places.{Places}
use Rattle.elf.specs.declared.section.SectionHeader.{SectionHeader}
use Rattle.elf.specs.declared.symbol.SymbolTable.{SymbolTable}
use Rattle.elf.specs.Kinds.{same_kind}
use Rattle.elf.specs.declared.kind.SectionKind.TheVariants.{PlainSymbols, NoBits, DynamicSymbols}

-- row n of a table of so many rows ends where the table ends, at the latest
pub row_within : (size n count : ℕ) → n < count → size * n + size ≤ size * count
row_within size n count l =
    let more = mul-add size n 1 in
    let one = mul-one size in
    let most : size * (n + 1) ≤ size * count = mul-le-mul_left size (omega arith) in
    omega arith

module _ (p : Places) (xs : List ℕ) where
  table_inside : (t : SectionTable) → table_fits p xs t ≡ true → Inside p xs t
  table_inside t fits n l =
      ⊎_elim
      (λ none. let zero_count = eqb-true t.count 0 none in absurd (omega arith))
      (λ some.
      let whole = leb-true (t.place + p.section_size * t.count) (length xs) (and_parts _ _ some).1 in
      let row = row_within p.section_size n t.count l in
      omega arith)
      (or_cases _ _ fits)

  -- the section headers that a header speaks of lie inside
  pub header_inside : (h : Header) → Some h ≡ header_of p xs → Inside p xs h.sections
  header_inside h e =
      let first = cond_some (is_image p xs) _ h e in
      let second = cond_some (table_fits p xs (section_table p xs)) _ h first.1 in
      let same = some_same h _ second.1 in
      subst (Inside p xs) (sym (ap (λ k. k.sections) same)) (table_inside (section_table p xs) second.0)

  -- a span that a section has lies inside
  pub occupied_inside : (s : SectionHeader) (e : Span) → Some e ≡ occupied xs s → e.place + e.len ≤ length xs
  occupied_inside s e h =
      cond_both (same_kind s.kind NoBits) _ _ (λ o. Some e ≡ o → e.place + e.len ≤ length xs)
      (λ _ q. let same = some_same e _ q in let a = ap (λ x. x.place) same in let b = ap (λ x. x.len) same in omega arith)
      (λ _ q.
      let there = cond_some (leb (s.offset + s.size) (length xs)) _ e q in
      let same = some_same e _ there.1 in
      let a = ap (λ x. x.place) same in
      let b = ap (λ x. x.len) same in
      let fits = leb-true (s.offset + s.size) (length xs) there.0 in
      omega arith)
      h

  made_inside : (entries strings : Span) → entries.place + entries.len ≤ length xs → strings.place + strings.len ≤ length xs → TableInside p xs (record { place = entries.place; count = entries.len / p.symbol_size - 1; strings = strings; readable = strings_end (span_bytes xs strings) })
  made_inside entries strings inside there =
      record {
        rows = λ n some l.
            let row = row_within p.symbol_size n (entries.len / p.symbol_size) (omega arith) in
            let whole = mul-div-le entries.len p.symbol_size in
            omega arith;
        strings = there;
        names = refl;
      }

  none_inside : TableInside p xs no_symbols
  none_inside = record { rows = λ n some l. absurd (omega arith); strings = omega arith; names = refl }

  from_inside : (t : SectionTable) (s : SectionHeader) (r : SymbolTable) → Some r ≡ table_from p xs t s → TableInside p xs r
  from_inside t s r e =
      let whole = cond_some (whole_entries p s) _ r e in
      let entries = ask_some (occupied xs s) _ r whole.1 in
      let linked = ask_some (numbered p xs t s.link) _ r entries.2 in
      let strings = ask_some (occupied xs linked.0) _ r linked.2 in
      let same = some_same r _ strings.2 in
      subst (TableInside p xs) (sym same)
      (made_inside entries.0 strings.0 (occupied_inside s entries.0 (sym entries.1)) (occupied_inside linked.0 strings.0 (sym strings.1)))

  of_inside : (t : SectionTable) (o : Option SectionHeader) (r : SymbolTable) → Some r ≡ table_of p xs t o → TableInside p xs r
  of_inside t None r e = subst (TableInside p xs) (sym (some_same r no_symbols e)) none_inside
  of_inside t (Some s) r e = from_inside t s r e

  -- all that a layout speaks of lies inside
  pub layout_inside : (l : Layout) → Some l ≡ layout_of p xs → LaidInside p xs l
  layout_inside l e =
      let header = ask_some (header_of p xs) _ l e in
      let h = header.0 in
      let names = ask_some (names_of p xs h) _ l header.2 in
      let dynamic = ask_some (symbol_table p xs h.sections DynamicSymbols) _ l names.2 in
      let plain = ask_some (symbol_table p xs h.sections PlainSymbols) _ l dynamic.2 in
      let same = some_same l _ plain.2 in
      subst (LaidInside p xs) (sym same)
      (record {
        sections = header_inside h (sym header.1);
        dynamic = of_inside h.sections (find (λ s. same_kind s.kind DynamicSymbols) (sections p xs h.sections)) dynamic.0 (sym dynamic.1);
        plain = of_inside h.sections (find (λ s. same_kind s.kind PlainSymbols) (sections p xs h.sections)) plain.0 (sym plain.1);
      })
