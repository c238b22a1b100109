-- The laws of an image. Assumes nothing.
use Rattle.std.proofs.Common.{◌≡◌, ℕ, ◌+◌, ◌-◌, ◌*◌, ◌/◌, ◌%◌, ◌<◌, ◌≤◌, Bool, false, leb, ◌⊎◌, List, length, get_or, Some, None, Option, sym, refl, ap, ◌∙◌, subst, inl, inr, ⊎_elim, arith}
use native.Mathlib.Nat.{div-add-mod}
use Rattle.std.specs.List.{find, slice_get}
use Rattle.std.proofs.lemmas.List.{length-append, length-drop, length-take-le}
use Rattle.std.proofs.lemmas.Bool.{and_parts, cases_eq, cond-false, eqb-true, ltb-true}
use Rattle.byte_parts.specs.Fields.{string_in}
use Rattle.byte_parts.specs.declared.span.Span.{Span}
use Rattle.byte_parts.proofs.Counting.{nth_back, nth_counted, nth_front}
use Rattle.byte_parts.proofs.Firsts.{find_gone}
use Rattle.byte_parts.proofs.Parted.{part_taken}
use Rattle.byte_parts.proofs.StringAnswers.{string_in_is, string_in_reads}
use Rattle.shelf.specs.Files.{SymbolModel}
use Rattle.shelf.proofs.Asks.{ask_some, cond_some, some_same}
use Rattle.elf.specs.Bounds.{LaidInside, TableInside}
use Rattle.elf.specs.Headers.{header_of}
use Rattle.elf.specs.Laws.{FirstTable, FromEntry, LaysOut, ListsEntries, NameAt, NoneOf}
use Rattle.elf.specs.Layouts.{layout_of, names_of, object_in}
use Rattle.elf.specs.Sections.{Inside, nth_section, numbered, occupied, sections, span_bytes, table_row}
use Rattle.elf.specs.Symbols.{symbol_model}
use Rattle.elf.specs.Tables.{listed, no_symbols, symbol_table, table_from, table_of, whole_entries}
use Rattle.elf.specs.declared.header.SectionTable.{SectionTable}
use Rattle.elf.specs.declared.layout.Layout.{Layout}
use Rattle.elf.specs.declared.places.Places.{Places}
use Rattle.elf.specs.declared.section.SectionHeader.{SectionHeader}
use Rattle.elf.specs.declared.symbol.SymbolTable.{SymbolTable}
use Rattle.elf.proofs.Insides.{header_inside, layout_inside}
use Rattle.elf.proofs.Listings.{listed_length}
use Rattle.elf.proofs.Numbering.{first_number, numbered_inv, sections_at, sections_length}
use Rattle.elf.specs.Kinds.{same_kind}
use Rattle.elf.specs.declared.kind.SectionKind.{SectionKind}
use Rattle.elf.specs.declared.kind.SectionKind.TheVariants.{PlainSymbols, NoBits, DynamicSymbols}
use Rattle.elf.proofs.SectionKinds.{kind-true, kind-false, kind-ne}

-- the name that a symbol has stands where its entry says
name_at : (strings : List ℕ) (place : ℕ) (o : Option (List ℕ)) → string_in strings place ≡ o → NameAt strings place o
name_at strings place None e = λ s h. let there = string_in_is h in let z : ◌≡◌ {A = ℕ} 0 1 = cc in omega arith
name_at strings place (Some s) e = string_in_reads strings place s e

module _ (p : Places) (xs : List ℕ) where
  -- the symbol that a row makes comes from it
  from_row : (t : SymbolTable) (n : ℕ) → t.place + p.symbol_size * n + p.symbol_size ≤ length xs → FromEntry p xs t n (symbol_model p (span_bytes xs t.strings) (table_row xs t.place p.symbol_size n))
  from_row t n fits =
      let left = length-drop (t.place + p.symbol_size * n) xs in
      record {
        entry = table_row xs t.place p.symbol_size n;
        stands = part_taken xs (t.place + p.symbol_size * n) p.symbol_size fits;
        whole = length-take-le p.symbol_size _ (omega arith);
        name = name_at (span_bytes xs t.strings) _ _ refl;
        symbol = refl;
      }

  in_table : (t : SymbolTable) → TableInside p xs t → (i : ℕ) (s : SymbolModel) → i < t.count → slice_get (listed p xs t) i ≡ Some s → FromEntry p xs t (i + 1) s
  in_table t inside i s l e =
      let there = nth_counted (λ n. symbol_model p (span_bytes xs t.strings) (table_row xs t.place p.symbol_size n)) t.count i l in
      subst (FromEntry p xs t (i + 1)) (some_same _ s (sym there ∙ e)) (from_row t (i + 1) (inside.rows (i + 1) (omega arith) (omega arith)))

  lists_entries : (l : Layout) → LaidInside p xs l → ListsEntries p xs l (object_in p xs l).symbols
  lists_entries l inside =
      let ds = listed p xs l.dynamic in
      let ps = listed p xs l.plain in
      let both = length-append ds ps in
      let dn = listed_length p xs l.dynamic in
      let pn = listed_length p xs l.plain in
      record {
        count = omega arith;
        dynamic = λ i s h e. in_table l.dynamic inside.dynamic i s h (sym (nth_front ds ps i (omega arith)) ∙ e);
        plain = λ i s h e.
            let on : l.dynamic.count + i - length ds ≡ i = omega arith in
            in_table l.plain inside.plain i s h (sym (nth_back ds ps (l.dynamic.count + i) (omega arith) ∙ ap (slice_get ps) on) ∙ e);
      }

  module _ (st : SectionTable) (inside : Inside p xs st) (kind : SectionKind) where
    abbrev of_kind : SectionHeader → Bool
    of_kind s = same_kind s.kind kind

    -- sections before a place are not of the kind
    none_of : (below : ℕ) → below ≤ st.count → ((k : ℕ) (d : SectionHeader) → k + 1 < below → of_kind (get_or (sections p xs st) k d) ≡ false) → NoneOf p xs st kind below
    none_of below most all m some l e =
        let back : m - 1 + 1 ≡ m = omega arith in
        let d = nth_section p xs st m in
        let other = all (m - 1) d (omega arith) in
        kind-false _ kind (sym (ap of_kind (sections_at p xs st m d some (omega arith))) ∙ other) e

    -- where the section has no NOBITS, its bytes are as long as it says
    has_bytes : (s : SectionHeader) (e : Span) → (s.kind ≡ NoBits → ⊥) → occupied xs s ≡ Some e → e.len ≡ s.size
    has_bytes s e other h =
        let bytes = cond_some (leb (s.offset + s.size) (length xs)) _ e (sym h ∙ cond-false (same_kind s.kind NoBits) _ _ (kind-ne s.kind NoBits other)) in
        ap (λ x. x.len) (some_same e _ bytes.1)

    -- what a table that fits says of its section
    pub record Fitted (s : SectionHeader) (t : SymbolTable) : Type 0 where
      pub starts : Some (record { place = t.place; len = s.size }) ≡ occupied xs s
      pub entries : (t.count ≡ 0) ⊎ (s.size ≡ p.symbol_size * (t.count + 1))
      pub linked : Some t.strings ≡ occupied xs (nth_section p xs st s.link)

    whole_rows : (size len count : ℕ) → 0 < size → len % size ≡ 0 → count ≡ len / size - 1 → (count ≡ 0) ⊎ (len ≡ size * (count + 1))
    whole_rows size len count some none e =
        ⊎_elim
        (λ zero_rows. inl (omega arith))
        (λ rows.
        let parts = div-add-mod len size in
        let again : size * (count + 1) ≡ size * (len / size) = ap (λ n. size * n) (omega arith) in
        inr (omega arith))
        (cases_eq (len / size) 0)

    fitted : (s : SectionHeader) (t : SymbolTable) → (s.kind ≡ NoBits → ⊥) → Some t ≡ table_from p xs st s → Fitted s t
    fitted s t other e =
        let whole = cond_some (whole_entries p s) _ t e in
        let tests = and_parts _ _ (and_parts _ _ whole.0).1 in
        let entries = ask_some (occupied xs s) _ t whole.1 in
        let linked = ask_some (numbered p xs st s.link) _ t entries.2 in
        let strings = ask_some (occupied xs linked.0) _ t linked.2 in
        let same = some_same t _ strings.2 in
        let long = has_bytes s entries.0 other entries.1 in
        record {
          starts = ap (λ place. Some (record { place = place; len = s.size })) (ap (λ x. x.place) same)
              ∙ ap (λ len. Some (record { place = entries.0.place; len = len })) (sym long)
              ∙ sym entries.1;
          entries = whole_rows p.symbol_size s.size t.count (ltb-true 0 p.symbol_size tests.0) (eqb-true _ 0 tests.1) (ap (λ x. x.count) same ∙ ap (λ n. n / p.symbol_size - 1) long);
          linked = ap (λ x. Some x.strings) same
              ∙ sym strings.1
              ∙ ap (occupied xs) (numbered_inv p xs st inside s.link linked.0 (sym linked.1)).2;
        }

    found : (other : kind ≡ NoBits → ⊥) (t : SymbolTable) (o : Option SectionHeader) → find of_kind (sections p xs st) ≡ o → Some t ≡ table_of p xs st o → FirstTable p xs st kind t
    found other t None e h =
        let long = sections_length p xs st in
        inl (none_of st.count (omega arith) (λ k d l. find_gone of_kind (sections p xs st) e k d (omega arith)), ap (λ x. x.count) (some_same t no_symbols h))
    found other t (Some s) e h =
        let there = first_number p xs st of_kind s e in
        let n = there.0 in
        let number = there.1 in
        let same = number.2 in
        let is_kind : s.kind ≡ kind = kind-true s.kind kind there.2 in
        let fits = subst (λ x. Fitted x t) same (fitted s t (λ q. other (sym is_kind ∙ q)) h) in
        inr (record {
          number = n;
          some = number.0;
          within = number.1;
          here = ap (λ x. x.kind) (sym same) ∙ is_kind;
          first = none_of n (omega arith) there.3;
          starts = fits.starts;
          entries = fits.entries;
          linked = fits.linked;
        })

    -- the table of a kind lies in the first section of the kind
    pub first_table : (kind ≡ NoBits → ⊥) → (t : SymbolTable) → Some t ≡ symbol_table p xs st kind → FirstTable p xs st kind t
    first_table other t e = found other t (find of_kind (sections p xs st)) refl e

  -- a layout keeps the laws
  pub lays_out : (l : Layout) → Some l ≡ layout_of p xs → LaysOut p xs l
  lays_out l e =
      let inside = layout_inside p xs l e in
      let header = ask_some (header_of p xs) _ l e in
      let h = header.0 in
      let names = ask_some (names_of p xs h) _ l header.2 in
      let dynamic = ask_some (symbol_table p xs h.sections DynamicSymbols) _ l names.2 in
      let plain = ask_some (symbol_table p xs h.sections PlainSymbols) _ l dynamic.2 in
      let same = some_same l _ plain.2 in
      let rows = header_inside p xs h (sym header.1) in
      record {
        dynamic = subst (λ x. FirstTable p xs x.sections DynamicSymbols x.dynamic) (sym same) (first_table h.sections rows DynamicSymbols (λ q. cc) dynamic.0 (sym dynamic.1));
        plain = subst (λ x. FirstTable p xs x.sections PlainSymbols x.plain) (sym same) (first_table h.sections rows PlainSymbols (λ q. cc) plain.0 (sym plain.1));
        symbols = lists_entries l inside;
      }
