-- The sections of an image by their numbers and by their places. Assumes nothing.
use Rattle.std.proofs.Common.{◌≡◌, ℕ, ◌+◌, ◌-◌, ◌≤◌, Bool, eqb, List, Some, None, sym, refl, ap, ◌∙◌, ⊎_elim, arith}
use Rattle.std.specs.List.{find, slice_get}
use Rattle.std.proofs.lemmas.Bool.{cases_eq, eq-eqb, ne_eqb}
use Rattle.elf.specs.Layouts.{section_model, section_models}
use Rattle.elf.specs.Sections.{Inside, nth_section, numbered}
use Rattle.elf.specs.declared.header.SectionTable.{SectionTable}
use Rattle.elf.specs.declared.places.Places.{Places}
use Rattle.elf.specs.declared.section.SectionHeader.{SectionHeader}
use Rattle.elf.proofs.Numbering.{numbered_inv, numbered_none}
use Rattle.elf.proofs.Scans.{scan_found, scan_none}
use Rattle.shelf.specs.declared.object.Section.{Section}
use Rattle.byte_parts.proofs.Counting.{nth_counted, nth_uncounted}

module _ (p : Places) (xs : List ℕ) (t : SectionTable) (inside : Inside p xs t) where
  abbrev model : ℕ → Section
  model n = section_model n (nth_section p xs t n)

  abbrev has_number : ℕ → Section → Bool
  has_number number s = eqb s.number number

  -- the number is that of no section
  pub number_none : (number : ℕ) → None ≡ numbered p xs t number → find (has_number number) (section_models p xs t) ≡ None
  number_none number e =
      scan_none model (has_number number) t.count
      (λ j some l.
      ne_eqb j number (λ same.
      ⊎_elim (λ none. omega arith) (λ positive. let past = numbered_none p xs t inside number e (omega arith) in omega arith) (cases_eq number 0)))

  -- the section with the number
  pub number_found : (number : ℕ) (s : SectionHeader) → Some s ≡ numbered p xs t number → find (has_number number) (section_models p xs t) ≡ Some (section_model number s)
  number_found number s e =
      let there = numbered_inv p xs t inside number s e in
      scan_found model (has_number number) t.count number there.0 there.1 (eq-eqb number number refl) (λ j some l. ne_eqb j number (λ same. omega arith))
      ∙ ap (λ h. Some (section_model number h)) (sym there.2)

  -- the same by its place
  pub place_none : (place : ℕ) → t.count ≤ place + 1 → slice_get (section_models p xs t) place ≡ None
  place_none place past = nth_uncounted model (t.count - 1) place (omega arith)

  pub place_gone : (place : ℕ) → None ≡ numbered p xs t (place + 1) → slice_get (section_models p xs t) place ≡ None
  place_gone place e = place_none place (numbered_none p xs t inside (place + 1) e (omega arith))

  pub place_found : (place : ℕ) (s : SectionHeader) → Some s ≡ numbered p xs t (place + 1) → slice_get (section_models p xs t) place ≡ Some (section_model (place + 1) s)
  place_found place s e =
      let there = numbered_inv p xs t inside (place + 1) s e in
      let l = there.1 in
      nth_counted model (t.count - 1) place (omega arith)
      ∙ ap (λ h. Some (section_model (place + 1) h)) (sym there.2)
