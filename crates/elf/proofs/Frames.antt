-- No byte outside the parts that are read changes what an image means. Assumes nothing.
use Rattle.std.proofs.Common.{◌≡◌, ℕ, zero, suc, ◌+◌, ◌-◌, ◌*◌, ◌/◌, ◌<◌, ◌≤◌, leb, ◌⊎◌, List, ◌++◌, map, length, drop, Some, None, Option, Ok, Err, Result, sym, refl, ap, ◌∙◌, subst, inl, inr, arith}
use native.Mathlib.Nat.{mul-div-le}
use Rattle.std.specs.List.{find, range_with_len}
use Rattle.std.specs.Option.{option_map}
use Rattle.std.proofs.lemmas.List.{length-take}
use Rattle.std.proofs.lemmas.Bool.{cond_both}
use Rattle.byte_parts.specs.Fields.{string_in, strings_end}
use Rattle.byte_parts.specs.Spans.{span_of}
use Rattle.byte_parts.specs.declared.span.Span.{Span}
use Rattle.byte_parts.proofs.StringAnswers.{string_in_reads}
use Rattle.byte_parts.proofs.Strings.{string_fits}
use Rattle.shelf.specs.Files.{LinkModel, ObjectModel, SymbolModel}
use Rattle.shelf.specs.Questions.{ask}
use Rattle.shelf.specs.declared.object.ObjectKind.{ObjectKind}
use Rattle.shelf.specs.declared.object.Section.{Section}
use Rattle.shelf.proofs.Asks.{ask_some, cond_some, some_same}
use Rattle.elf.specs.Frames.{Alike, HasSymbols, OnlyParts, ReadSection, SamePart, debuglink, notes, symbols}
use Rattle.elf.specs.Headers.{header_of}
use Rattle.elf.specs.Layouts.{layout_of, link_model, named_so, names_of, object_in, section_model, section_models}
use Rattle.elf.specs.Links.{is_debuglink, link_found, link_named, link_of, link_place}
use Rattle.elf.specs.Notes.{build_id, notes_at, notes_in, notes_of, or_else, padding, placed}
use Rattle.elf.specs.Sections.{nth_section, numbered, occupied, sections, span_bytes, table_row}
use Rattle.elf.specs.Symbols.{symbol_model}
use Rattle.elf.specs.Tables.{listed, no_symbols, symbol_table, table_from, table_of, whole_entries}
use Rattle.elf.specs.declared.header.Header.{Header}
use Rattle.elf.specs.declared.layout.Layout.{Layout}
use Rattle.shelf.specs.declared.object.Debuglink.TheVariants.{Malformed, Named}
use Rattle.elf.specs.declared.notes.MalformedNote.{MalformedNote}
use Rattle.elf.specs.declared.places.Places.{Places}
use Rattle.elf.specs.declared.section.SectionHeader.{SectionHeader}
use Rattle.elf.specs.declared.symbol.SymbolTable.{SymbolTable}
use Rattle.elf.proofs.Agreements.{same_counted, same_front, same_stretch, same_within}
use Rattle.elf.proofs.FrameParts.{has_symbols, same_bytes, same_layout, same_nth, same_strings}
use Rattle.elf.proofs.Insides.{row_within}
use Rattle.elf.proofs.NoteRuns.{Within, notes_within}
use Rattle.elf.proofs.Numbering.{HasNumber, first_number}
use Rattle.elf.specs.Kinds.{same_kind}
use Rattle.elf.specs.declared.kind.SectionKind.{SectionKind}
use Rattle.elf.specs.declared.kind.SectionKind.TheVariants.{PlainSymbols, Notes, DynamicSymbols}
use Rattle.elf.proofs.SectionKinds.{kind-true}

-- the bytes of a span are no more than it says
span_length : (xs : List ℕ) (e : Span) → length (span_bytes xs e) ≤ e.len
span_length xs e = let long = length-take e.len (drop e.place xs) in omega arith

-- an object file by its fields
same_fields : (kind : ObjectKind) {a b : List SymbolModel} {c d : List Section} {e f : LinkModel} {i j : Option (List ℕ)} → a ≡ b → c ≡ d → e ≡ f → i ≡ j → ◌≡◌ {A = ObjectModel} (record { kind = kind; symbols = a; sections = c; debuglink = e; build_id = i }) (record { kind = kind; symbols = b; sections = d; debuglink = f; build_id = j })
same_fields kind w x y z = cc

module _ (p : Places) (xs ys : List ℕ) where
  -- a table lists the same symbols where its section and its strings are the same
  same_entries : (entries strings : Span) (readable : ℕ) → SamePart xs ys entries.place entries.len → SamePart xs ys strings.place strings.len → let t : SymbolTable = record { place = entries.place; count = entries.len / p.symbol_size - 1; strings = strings; readable = readable } in listed p ys t ≡ listed p xs t
  same_entries entries strings readable rows names =
      same_counted _ _ 1 (entries.len / p.symbol_size - 1)
      (λ n low high.
      let row = row_within p.symbol_size n (entries.len / p.symbol_size) (omega arith) in
      let whole = mul-div-le entries.len p.symbol_size in
      ap (λ bs. symbol_model p bs (table_row ys entries.place p.symbol_size n)) names
      ∙ ap (symbol_model p (span_bytes xs strings)) (same_within xs ys entries.place entries.len (p.symbol_size * n) p.symbol_size (omega arith) rows))

  -- a build id, where one is found, is the same
  abbrev SameFound : Result (Option Span) MalformedNote → Type 0
  SameFound (Ok None) = Unit {0}
  SameFound (Err e) = Unit {0}
  SameFound (Ok (Some s)) = SamePart xs ys s.place s.len

  same_placed : (e : Span) (n : ℕ) → n ≤ e.len → SamePart xs ys e.place e.len → (r : Result (Option Span) MalformedNote) → Within n r → SameFound (placed e.place r)
  same_placed e n l same (Ok None) within = tt
  same_placed e n l same (Err x) within = tt
  same_placed e n l same (Ok (Some s)) within = same_within xs ys e.place e.len s.place s.len (omega arith) same

  same_first : (r later : Result (Option Span) MalformedNote) → SameFound r → SameFound later → SameFound (or_else r later)
  same_first (Ok None) later this rest = rest
  same_first (Err e) later this rest = tt
  same_first (Ok (Some s)) later this rest = this

  same_id : length ys ≡ length xs → (r : Result (Option Span) MalformedNote) → SameFound r → ask (build_id r) (span_of ys) ≡ ask (build_id r) (span_of xs)
  same_id long (Ok None) same = refl
  same_id long (Err e) same = refl
  same_id long (Ok (Some s)) same = same_stretch xs ys s.place s.len long same

  module _ (alike : Alike p xs ys) (h : Header) (there : header_of p xs ≡ Some h) where
    same_listed : (kind : SectionKind) → (kind ≡ PlainSymbols) ⊎ (kind ≡ DynamicSymbols) → (t : SymbolTable) → symbol_table p xs h.sections kind ≡ Some t → listed p ys t ≡ listed p xs t
    same_listed kind either t e = of (find (λ s. same_kind s.kind kind) (sections p xs h.sections)) refl (sym e)
      where
        from : (n : ℕ) (s : SectionHeader) → HasNumber p xs h.sections n s → HasSymbols p xs h n → Some t ≡ table_from p xs h.sections s → listed p ys t ≡ listed p xs t
        from n s at has q =
            let whole = cond_some (whole_entries p s) _ t q in
            let entries = ask_some (occupied xs s) _ t whole.1 in
            let linked = ask_some (numbered p xs h.sections s.link) _ t entries.2 in
            let strings = ask_some (occupied xs linked.0) _ t linked.2 in
            let same = some_same t _ strings.2 in
            subst (λ r. listed p ys r ≡ listed p xs r) (sym same)
            (same_entries entries.0 strings.0 (strings_end (span_bytes xs strings.0))
            (same_bytes p xs ys alike h there n s at (symbols n has) entries.0 entries.1)
            (same_strings p xs ys alike h there n s at has linked.0 linked.1 strings.0 strings.1))

        of : (o : Option SectionHeader) → find (λ s. same_kind s.kind kind) (sections p xs h.sections) ≡ o → Some t ≡ table_of p xs h.sections o → listed p ys t ≡ listed p xs t
        of None q is = subst (λ r. listed p ys r ≡ listed p xs r) (sym (some_same t no_symbols is)) refl
        of (Some s) q is =
            let first = first_number p xs h.sections (λ x. same_kind x.kind kind) s q in
            from first.0 s first.1 (has_symbols p xs ys alike h there kind either first.0 s first.1 first.2) is

    same_models : section_models p ys h.sections ≡ section_models p xs h.sections
    same_models =
        same_counted _ _ 1 (h.sections.count - 1) (λ n low high. ap (section_model n) (same_nth p xs ys alike h there n (omega arith)))

    -- the name in the debuglink is the same
    same_target : (called : List ℕ) → names_of p xs h ≡ Some called → link_model ys (link_place p xs h.sections called) ≡ link_model xs (link_place p xs h.sections called)
    same_target called name = found (find (is_debuglink called) (sections p xs h.sections)) refl
      where
        stands : (e : Span) → SamePart xs ys e.place e.len → (o : Option (List ℕ)) → string_in (span_bytes xs e) 0 ≡ o → link_model ys (link_named e o) ≡ link_model xs (link_named e o)
        stands e same None is = refl
        stands e same (Some s) is =
            let fits = string_fits (string_in_reads (span_bytes xs e) 0 s is) in
            let long = span_length xs e in
            cond_both (leb (padding (length s + 1) + 4) e.len) (Named (record { place = e.place; len = length s })) Malformed (λ r. link_model ys r ≡ link_model xs r)
            (λ _. ap named_so (same_stretch xs ys e.place (length s) alike.long (same_front xs ys e.place e.len (length s) (omega arith) same)))
            (λ _. refl)

        of : (n : ℕ) (s : SectionHeader) → HasNumber p xs h.sections n s → ReadSection p xs h n → (o : Option Span) → occupied xs s ≡ o → link_model ys (link_of xs o) ≡ link_model xs (link_of xs o)
        of n s at read None is = refl
        of n s at read (Some e) is = stands e (same_bytes p xs ys alike h there n s at read e is) _ refl

        found : (o : Option SectionHeader) → find (is_debuglink called) (sections p xs h.sections) ≡ o → link_model ys (link_found xs o) ≡ link_model xs (link_found xs o)
        found None e = refl
        found (Some s) e =
            let first = first_number p xs h.sections (is_debuglink called) s e in
            let read = debuglink first.0 called name (ap (is_debuglink called) (sym first.1.2) ∙ first.2) in
            of first.0 s first.1 read (occupied xs s) refl

    -- so is the build id
    same_found : (a n : ℕ) → 0 < a → n ≤ h.sections.count - a → SameFound (notes_of xs (map (nth_section p xs h.sections) (range_with_len a n)))
    same_found a zero some l = tt
    same_found a (suc n) some l =
        let s = nth_section p xs h.sections a in
        let rest = same_found (a + 1) n (omega arith) (omega arith) in
        cond_both (same_kind s.kind Notes) _ _ SameFound
        (λ test. same_first (notes_at xs (occupied xs s)) _ (of (notes a (kind-true s.kind Notes test)) (occupied xs s) refl) rest)
        (λ _. rest)
      where
        of : ReadSection p xs h a → (o : Option Span) → occupied xs (nth_section p xs h.sections a) ≡ o → SameFound (notes_at xs o)
        of read None is = tt
        of read (Some e) is =
            same_placed e (length (span_bytes xs e)) (span_length xs e)
            (same_bytes p xs ys alike h there a (nth_section p xs h.sections a) (some, omega arith, refl) read e is)
            (notes_in (span_bytes xs e))
            (notes_within (span_bytes xs e))

  same_object : Alike p xs ys → (l : Layout) → layout_of p xs ≡ Some l → object_in p ys l ≡ object_in p xs l
  same_object alike l e =
      let header = ask_some (header_of p xs) _ l (sym e) in
      let h = header.0 in
      let names = ask_some (names_of p xs h) _ l header.2 in
      let dynamic = ask_some (symbol_table p xs h.sections DynamicSymbols) _ l names.2 in
      let plain = ask_some (symbol_table p xs h.sections PlainSymbols) _ l dynamic.2 in
      let same = some_same l _ plain.2 in
      subst (λ x. object_in p ys x ≡ object_in p xs x) (sym same)
      (same_fields h.kind
      (ap (λ ss. ss ++ listed p ys plain.0) (same_listed alike h header.1 DynamicSymbols (inr refl) dynamic.0 dynamic.1)
      ∙ ap (λ ss. listed p xs dynamic.0 ++ ss) (same_listed alike h header.1 PlainSymbols (inl refl) plain.0 plain.1))
      (same_models alike h header.1)
      (same_target alike h header.1 names.0 names.1)
      (same_id alike.long (notes_of xs (sections p xs h.sections)) (same_found alike h header.1 1 (h.sections.count - 1) (omega arith) (omega arith))))

pub only_parts : (p : Places) (xs : List ℕ) → OnlyParts p xs
only_parts p xs ys alike =
    ap (option_map (object_in p ys)) (same_layout p xs ys alike) ∙ each (layout_of p xs) refl
  where
    each : (o : Option Layout) → layout_of p xs ≡ o → option_map (object_in p ys) o ≡ option_map (object_in p xs) o
    each None e = refl
    each (Some l) e = ap Some (same_object p xs ys alike l e)
