-- The note sections one after another: what those from a number on say. Assumes nothing.
use Rattle.std.proofs.Common.{◌≡◌, true, false, ℕ, ◌+◌, ◌-◌, ◌<◌, ◌≤◌, List, ◌∷◌, drop, Some, None, Option, Ok, Err, Result, sym, refl, ap, ◌∙◌, arith}
use Rattle.std.proofs.lemmas.List.{at_drop_all, at_drop_more}
use Rattle.std.proofs.lemmas.Bool.{cond-true, cond-false}
use Rattle.std.specs.Result.{result_ok}
use Rattle.elf.specs.Notes.{build_id, notes_at, notes_of, or_else}
use Rattle.elf.specs.Sections.{nth_section, occupied, sections}
use Rattle.elf.specs.declared.header.SectionTable.{SectionTable}
use Rattle.elf.specs.declared.notes.MalformedNote.{MalformedNote}
use Rattle.byte_parts.specs.declared.span.Span.{Span}
use Rattle.elf.specs.declared.places.Places.{Places}
use Rattle.elf.specs.declared.section.SectionHeader.{SectionHeader}
use Rattle.elf.proofs.Numbering.{sections_at, sections_length}
use Rattle.elf.specs.Kinds.{same_kind}
use Rattle.elf.specs.declared.kind.SectionKind.TheVariants.{Notes}

module _ (p : Places) (xs : List ℕ) (t : SectionTable) where
  -- what the sections from number n on say
  abbrev pub rest_from : ℕ → Result (Option Span) MalformedNote
  rest_from n = notes_of xs (drop (n - 1) (sections p xs t))

  more : (n : ℕ) → 0 < n → n < t.count → (s : SectionHeader) → s ≡ nth_section p xs t n → rest_from n ≡ notes_of xs (s ∷ drop (n + 1 - 1) (sections p xs t))
  more n some l s e =
      let long = sections_length p xs t in
      let on : n - 1 + 1 ≡ n + 1 - 1 = omega arith in
      at_drop_more (notes_of xs) (sections p xs t) (n - 1) s (omega arith)
      ∙ ap (λ x. notes_of xs (x ∷ drop (n - 1 + 1) (sections p xs t))) (sections_at p xs t n s some l ∙ sym e)
      ∙ ap (λ k. notes_of xs (s ∷ drop k (sections p xs t))) on

  -- a section that has notes says what it says, or what the rest does
  pub more_notes : (n : ℕ) → 0 < n → n < t.count → (s : SectionHeader) → s ≡ nth_section p xs t n → same_kind s.kind Notes ≡ true → (r : Result (Option Span) MalformedNote) → r ≡ notes_at xs (occupied xs s) → rest_from n ≡ or_else r (rest_from (n + 1))
  more_notes n some l s e is-note r h =
      more n some l s e
      ∙ cond-true (same_kind s.kind Notes) _ _ is-note
      ∙ ap (λ m. or_else m (rest_from (n + 1))) (sym h)

  -- and any other says nothing
  pub more_other : (n : ℕ) → 0 < n → n < t.count → (s : SectionHeader) → s ≡ nth_section p xs t n → same_kind s.kind Notes ≡ false → rest_from n ≡ rest_from (n + 1)
  more_other n some l s e other = more n some l s e ∙ cond-false (same_kind s.kind Notes) _ _ other

  pub no_more : (n : ℕ) → 0 < n → t.count ≤ n → rest_from n ≡ Ok None
  no_more n some l = let long = sections_length p xs t in at_drop_all (notes_of xs) (sections p xs t) (n - 1) (omega arith)

-- a section's answer before the later ones: malformed, a build id, or neither
pub id_malformed : (r later : Result (Option Span) MalformedNote) → result_ok r ≡ None → build_id (or_else r later) ≡ None
id_malformed (Err e) later h = refl
id_malformed (Ok None) later h = cc
id_malformed (Ok (Some s)) later h = cc

pub id_here : (r later : Result (Option Span) MalformedNote) (s : Span) → result_ok r ≡ Some (Some s) → build_id (or_else r later) ≡ Some s
id_here (Err e) later s h = cc
id_here (Ok None) later s h = cc
id_here (Ok (Some t)) later s h = cc

pub id_later : (r later : Result (Option Span) MalformedNote) → result_ok r ≡ Some None → or_else r later ≡ later
id_later (Err e) later h = cc
id_later (Ok None) later h = refl
id_later (Ok (Some s)) later h = cc
