-- The sections by their numbers, where the table lies inside the image. Assumes nothing.
use Rattle.std.proofs.Common.{◌≡◌, ℕ, ◌+◌, ◌-◌, ◌*◌, ◌<◌, ◌≤◌, Bool, true, false, ◌&&◌, ltb, List, length, get_or, Some, None, sym, ap, ◌∙◌, ⊎_elim, arith}
use Rattle.std.specs.Option.{option_map}
use Rattle.std.proofs.lemmas.List.FromFn.{length-map-range_with_len, get_or-map-range_with_len}
use Rattle.std.proofs.lemmas.Bool.{and_from, and_parts, cases_lt, cond-true, lt-ltb, ltb-true}
use Rattle.std.specs.List.{find}
use Rattle.byte_parts.proofs.Firsts.{find_inv}
use Rattle.byte_parts.proofs.Spans.{stretch_there}
use Rattle.shelf.proofs.Asks.{cond_some}
use Rattle.elf.specs.Sections.{Inside, nth_section, numbered, section_in, sections}
use Rattle.elf.specs.declared.header.SectionTable.{SectionTable}
use Rattle.elf.specs.declared.places.Places.{Places}
use Rattle.elf.specs.declared.section.SectionHeader.{SectionHeader}

module _ (p : Places) (xs : List ℕ) (t : SectionTable) where
  -- this is the number of the section
  abbrev pub HasNumber : ℕ → SectionHeader → Type 0
  HasNumber n s = (0 < n) × (n < t.count) × (s ≡ nth_section p xs t n)

  -- each number from 1 up to the count has a section
  pub numbered_there : Inside p xs t → (n : ℕ) → 0 < n → n < t.count → numbered p xs t n ≡ Some (nth_section p xs t n)
  numbered_there inside n some l =
      cond-true (ltb 0 n && ltb n t.count) _ None (and_from _ _ (lt-ltb 0 n some) (lt-ltb n t.count l))
      ∙ ap (option_map (section_in p)) (stretch_there xs (t.place + p.section_size * n) p.section_size (inside n l))

  pub numbered_is : Inside p xs t → (n : ℕ) → 0 < n → n < t.count → (s : SectionHeader) → Some s ≡ numbered p xs t n → s ≡ nth_section p xs t n
  numbered_is inside n some l s e = let there = numbered_there inside n some l in cc

  pub numbered_some : Inside p xs t → (n : ℕ) → 0 < n → n < t.count → None ≡ numbered p xs t n → ⊥
  numbered_some inside n some l e =
      let there = numbered_there inside n some l in
      let z : ◌≡◌ {A = ℕ} 0 1 = cc in
      omega arith

  -- a section that is there has such a number
  pub numbered_inv : Inside p xs t → (n : ℕ) (s : SectionHeader) → Some s ≡ numbered p xs t n → HasNumber n s
  numbered_inv inside n s e =
      let tests = and_parts _ _ (cond_some (ltb 0 n && ltb n t.count) _ s e).0 in
      let some = ltb-true 0 n tests.0 in
      let l = ltb-true n t.count tests.1 in
      (some, l, numbered_is inside n some l s e)

  pub numbered_none : Inside p xs t → (n : ℕ) → None ≡ numbered p xs t n → 0 < n → t.count ≤ n
  numbered_none inside n e some = ⊎_elim (λ l. absurd (numbered_some inside n some l e)) (λ past. past) (cases_lt n t.count)

  -- and they stand in the list of sections, from place 0
  pub sections_length : length (sections p xs t) ≡ t.count - 1
  sections_length = length-map-range_with_len (nth_section p xs t) 1 (t.count - 1)

  pub sections_at : (n : ℕ) (d : SectionHeader) → 0 < n → n < t.count → get_or (sections p xs t) (n - 1) d ≡ nth_section p xs t n
  sections_at n d some l = get_or-map-range_with_len (nth_section p xs t) 1 (t.count - 1) (n - 1) n d (omega arith) (omega arith)

  -- the first section that passes a test has a number, and none with a number below does
  pub first_number : (test : SectionHeader → Bool) (s : SectionHeader) → find test (sections p xs t) ≡ Some s → (n : ℕ) × HasNumber n s × (test s ≡ true) × ((k : ℕ) (d : SectionHeader) → k + 1 < n → test (get_or (sections p xs t) k d) ≡ false)
  first_number test s e =
      let long = sections_length in
      let there = find_inv test (sections p xs t) s e in
      let n = there.0 + 1 in
      let back : n - 1 ≡ there.0 = omega arith in
      let low = there.1 in
      let within : n < t.count = omega arith in
      let same = sym (there.2 s) ∙ ap (λ i. get_or (sections p xs t) i s) (sym back) ∙ sections_at n s (omega arith) within in
      (n, (omega arith, within, same), there.3, λ k d l. there.4 k d (omega arith))
