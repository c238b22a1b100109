-- An image that is alike wherever an image is read has the same layout. Assumes nothing.
use Rattle.std.proofs.Common.{◌≡◌, ℕ, zero, suc, ◌+◌, ◌-◌, ◌*◌, ◌/◌, ◌<◌, ◌≤◌, true, cond, ◌&&◌, ◌||◌, eqb, ltb, leb, ◌⊎◌, List, [], map, length, take, Some, None, Option, sym, refl, ap, ◌∙◌, subst, inl, inr, arith}
use Rattle.std.specs.List.{find, range_with_len}
use Rattle.std.specs.Option.{option_map}
use Rattle.std.specs.Str.{bytes_eq}
use Rattle.std.proofs.lemmas.Bool.{and_parts, ltb-true}
use Rattle.byte_parts.specs.Fields.{bytes_in, little_endian, string_in, strings_end}
use Rattle.byte_parts.specs.declared.span.Span.{Span}
use Rattle.elf.specs.Frames.{Alike, HasSymbols, ReadSection, SamePart, debuglink, e_shentsize, e_shnum, e_shoff, e_shstrndx, e_type, headers, identification, names, notes, section, strings}
use Rattle.elf.specs.Headers.{header_of, kind_named}
use Rattle.elf.specs.Headers as head
use Rattle.elf.specs.Layouts.{laid, layout_of, names_of}
use Rattle.elf.specs.Links.{is_debuglink, link_found, link_named, link_of, link_place}
use Rattle.elf.specs.Notes.{build_id, notes_at, notes_in, notes_of, or_else, placed}
use Rattle.elf.specs.Sections.{Inside, nth_section, numbered, occupied, section_in, sections}
use Rattle.elf.specs.Tables.{symbol_table, table_from, table_of, whole_entries}
use Rattle.elf.specs.declared.header.Header.{Header}
use Rattle.elf.specs.declared.places.Places.{Places}
use Rattle.elf.specs.declared.section.SectionHeader.{SectionHeader}
use Rattle.elf.proofs.Agreements.{same_ask, same_cond, same_counted, same_number, same_stretch, same_within}
use Rattle.elf.proofs.Insides.{header_inside, row_within}
use Rattle.elf.proofs.Numbering.{HasNumber, first_number, numbered_inv}
use Rattle.elf.specs.Kinds.{same_kind}
use Rattle.elf.specs.declared.kind.SectionKind.{SectionKind}
use Rattle.elf.specs.declared.kind.SectionKind.TheVariants.{PlainSymbols, Notes, NoBits, DynamicSymbols}
use Rattle.elf.proofs.SectionKinds.{kind-true}

-- a header by what is read for it: the length, the identification, and the fields
header_by : Places → ℕ → List ℕ → ℕ → ℕ → ℕ → ℕ → ℕ → Option Header
header_by p long front kind place size count name =
    cond (leb p.header_size long && bytes_eq front (head.identification p))
    (cond (eqb (cond (eqb place 0) 0 count) 0 || (eqb size p.section_size && leb (place + p.section_size * cond (eqb place 0) 0 count) long))
    (Some (record { kind = kind_named kind; sections = record { place = place; count = cond (eqb place 0) 0 count }; names = name }))
    None)
    None

header_read : (p : Places) (xs : List ℕ) → header_of p xs ≡ header_by p (length xs) (take 7 xs) (little_endian 2 xs 16) (little_endian (bytes_in p.word) xs p.e_shoff) (little_endian 2 xs p.e_shentsize) (little_endian 2 xs p.e_shnum) (little_endian 2 xs p.e_shstrndx)
unfolding header_by
header_read p xs = refl

module _ (p : Places) (xs ys : List ℕ) (alike : Alike p xs ys) where
  -- the header is the same
  same_header : header_of p ys ≡ header_of p xs
  same_header =
      let long = alike.long in
      let front = alike.parts 0 7 identification in
      let kind = same_number xs ys 2 16 (alike.parts _ _ e_type) in
      let place = same_number xs ys (bytes_in p.word) p.e_shoff (alike.parts _ _ e_shoff) in
      let size = same_number xs ys 2 p.e_shentsize (alike.parts _ _ e_shentsize) in
      let count = same_number xs ys 2 p.e_shnum (alike.parts _ _ e_shnum) in
      let name = same_number xs ys 2 p.e_shstrndx (alike.parts _ _ e_shstrndx) in
      let there = header_read p xs in
      let here = header_read p ys in
      cc

  -- whether a section is inside depends on the length only
  same_occupied : (s : SectionHeader) → occupied ys s ≡ occupied xs s
  same_occupied s =
      ap (λ n. cond (same_kind s.kind NoBits) (Some (record { place = 0; len = 0 })) (cond (leb (s.offset + s.size) n) (Some (record { place = s.offset; len = s.size })) None)) alike.long

  module _ (h : Header) (there : header_of p xs ≡ Some h) where
    inside : Inside p xs h.sections
    inside = header_inside p xs h (sym there)

    -- the section headers are the same
    same_row : (n : ℕ) → n < h.sections.count → SamePart xs ys (h.sections.place + p.section_size * n) p.section_size
    same_row n l =
        same_within xs ys h.sections.place (p.section_size * h.sections.count) (p.section_size * n) p.section_size
        (row_within p.section_size n h.sections.count l)
        (alike.parts _ _ (headers h there))

    pub same_nth : (n : ℕ) → n < h.sections.count → nth_section p ys h.sections n ≡ nth_section p xs h.sections n
    same_nth n l = ap (section_in p) (same_row n l)

    same_sections : sections p ys h.sections ≡ sections p xs h.sections
    same_sections =
        same_counted (nth_section p ys h.sections) (nth_section p xs h.sections) 1 (h.sections.count - 1) (λ n low high. same_nth n (omega arith))

    same_numbered : (n : ℕ) → numbered p ys h.sections n ≡ numbered p xs h.sections n
    same_numbered n =
        same_cond (ltb 0 n && ltb n h.sections.count) _ _ None
        (λ t.
        let l = ltb-true n h.sections.count (and_parts _ _ t).1 in
        ap (option_map (section_in p)) (same_stretch xs ys (h.sections.place + p.section_size * n) p.section_size alike.long (same_row n l)))

    -- so are the bytes of a section that is read
    pub same_bytes : (n : ℕ) (s : SectionHeader) → HasNumber p xs h.sections n s → ReadSection p xs h n → (e : Span) → occupied xs s ≡ Some e → SamePart xs ys e.place e.len
    same_bytes n s at read e is = alike.parts _ _ (section h n e there at.0 at.1 read (ap (occupied xs) (sym at.2) ∙ is))

    -- the names of sections are the same
    same_names : names_of p ys h ≡ names_of p xs h
    same_names =
        ap (cond (eqb h.names 0) (Some []))
        (same_ask _ (numbered p xs h.sections h.names) _ _ (same_numbered h.names)
        (λ s is.
        same_ask _ (occupied xs s) _ _ (same_occupied s)
        (λ e span. same_stretch xs ys e.place e.len alike.long (same_bytes h.names s (numbered_inv p xs h.sections inside h.names s (sym is)) names e span))))

    -- the strings that a table of symbols links to are the same
    pub same_strings : (n : ℕ) (s : SectionHeader) → HasNumber p xs h.sections n s → HasSymbols p xs h n → (linked : SectionHeader) → numbered p xs h.sections s.link ≡ Some linked → (e : Span) → occupied xs linked ≡ Some e → SamePart xs ys e.place e.len
    same_strings n s at has linked is e q =
        let link = (nth_section p xs h.sections n).link in
        let same : s.link ≡ link = ap (λ x. x.link) at.2 in
        same_bytes link linked (numbered_inv p xs h.sections inside link linked (sym is ∙ ap (numbered p xs h.sections) same)) (strings n at.0 at.1 has) e q

    same_from : (n : ℕ) (s : SectionHeader) → HasNumber p xs h.sections n s → HasSymbols p xs h n → table_from p ys h.sections s ≡ table_from p xs h.sections s
    same_from n s at has =
        ap (λ o. cond (whole_entries p s) o None)
        (same_ask _ (occupied xs s) _ _ (same_occupied s)
        (λ entries _.
        same_ask _ (numbered p xs h.sections s.link) _ _ (same_numbered s.link)
        (λ linked is.
        same_ask _ (occupied xs linked) _ _ (same_occupied linked)
        (λ span q. ap (λ bs. Some (record { place = entries.place; count = entries.len / p.symbol_size - 1; strings = span; readable = strings_end bs })) (same_strings n s at has linked is span q)))))

    -- and so is the first table of a kind
    module _ (kind : SectionKind) (either : (kind ≡ PlainSymbols) ⊎ (kind ≡ DynamicSymbols)) where
      pub has_symbols : (n : ℕ) (s : SectionHeader) → HasNumber p xs h.sections n s → same_kind s.kind kind ≡ true → HasSymbols p xs h n
      has_symbols n s at test =
          let is : (nth_section p xs h.sections n).kind ≡ kind = ap (λ x. x.kind) (sym at.2) ∙ kind-true s.kind kind test in
          subst (λ k. (k ≡ PlainSymbols) ⊎ (k ≡ DynamicSymbols)) (sym is) either

      same_table : symbol_table p ys h.sections kind ≡ symbol_table p xs h.sections kind
      same_table =
          ap (λ ss. table_of p ys h.sections (find (λ s. same_kind s.kind kind) ss)) same_sections
          ∙ of (find (λ s. same_kind s.kind kind) (sections p xs h.sections)) refl
        where
          of : (o : Option SectionHeader) → find (λ s. same_kind s.kind kind) (sections p xs h.sections) ≡ o → table_of p ys h.sections o ≡ table_of p xs h.sections o
          of None e = refl
          of (Some s) e =
              let first = first_number p xs h.sections (λ s. same_kind s.kind kind) s e in
              same_from first.0 s first.1 (has_symbols first.0 s first.1 first.2)

    -- the debuglink is the same
    same_link : (called : List ℕ) → names_of p xs h ≡ Some called → link_place p ys h.sections called ≡ link_place p xs h.sections called
    same_link called name =
        ap (λ ss. link_found ys (find (is_debuglink called) ss)) same_sections
        ∙ found (find (is_debuglink called) (sections p xs h.sections)) refl
      where
        of : (n : ℕ) (s : SectionHeader) → HasNumber p xs h.sections n s → ReadSection p xs h n → (o : Option Span) → occupied xs s ≡ o → link_of ys o ≡ link_of xs o
        of n s at read None is = refl
        of n s at read (Some e) is = ap (λ bs. link_named e (string_in bs 0)) (same_bytes n s at read e is)

        found : (o : Option SectionHeader) → find (is_debuglink called) (sections p xs h.sections) ≡ o → link_found ys o ≡ link_found xs o
        found None e = refl
        found (Some s) e =
            let first = first_number p xs h.sections (is_debuglink called) s e in
            let read = debuglink first.0 called name (ap (is_debuglink called) (sym first.1.2) ∙ first.2) in
            ap (link_of ys) (same_occupied s) ∙ of first.0 s first.1 read (occupied xs s) refl

    -- and so are the notes
    same_notes : (a n : ℕ) → 0 < a → n ≤ h.sections.count - a → notes_of ys (map (nth_section p xs h.sections) (range_with_len a n)) ≡ notes_of xs (map (nth_section p xs h.sections) (range_with_len a n))
    same_notes a zero some l = refl
    same_notes a (suc n) some l =
        let rest = same_notes (a + 1) n (omega arith) (omega arith) in
        let s = nth_section p xs h.sections a in
        ap (λ r. cond (same_kind s.kind Notes) (or_else (notes_at ys (occupied ys s)) r) r) rest
        ∙ same_cond (same_kind s.kind Notes) _ _ _
        (λ test.
        ap (λ r. or_else r (notes_of xs (map (nth_section p xs h.sections) (range_with_len (a + 1) n))))
        (ap (notes_at ys) (same_occupied s) ∙ of (notes a (kind-true s.kind Notes test)) (occupied xs s) refl))
      where
        of : ReadSection p xs h a → (o : Option Span) → occupied xs (nth_section p xs h.sections a) ≡ o → notes_at ys o ≡ notes_at xs o
        of read None is = refl
        of read (Some e) is = ap (λ bs. placed e.place (notes_in bs)) (same_bytes a (nth_section p xs h.sections a) (some, omega arith, refl) read e is)

    same_laid : (called : List ℕ) → names_of p xs h ≡ Some called → laid p ys h called ≡ laid p xs h called
    same_laid called name =
        same_ask _ (symbol_table p xs h.sections DynamicSymbols) _ _ (same_table DynamicSymbols (inr refl))
        (λ dynamic _.
        same_ask _ (symbol_table p xs h.sections PlainSymbols) _ _ (same_table PlainSymbols (inl refl))
        (λ plain _.
        ap (λ link. Some (record { kind = h.kind; sections = h.sections; dynamic = dynamic; plain = plain; debuglink = link; build_id = build_id (notes_of ys (sections p ys h.sections)) })) (same_link called name)
        ∙ ap (λ r. Some (record { kind = h.kind; sections = h.sections; dynamic = dynamic; plain = plain; debuglink = link_place p xs h.sections called; build_id = build_id r }))
        (ap (notes_of ys) same_sections ∙ same_notes 1 (h.sections.count - 1) (omega arith) (omega arith))))

  -- the layout is the same
  pub same_layout : layout_of p ys ≡ layout_of p xs
  same_layout =
      same_ask _ (header_of p xs) _ _ same_header
      (λ h there. same_ask _ (names_of p xs h) _ _ (same_names h there) (same_laid h there))
