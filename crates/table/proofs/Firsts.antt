-- What a search for a row answers, as a function: so there is one first row at most. Assumes nothing.
use Rattle.std.proofs.Common.{◌≡◌, ℕ, Bool, List, [], ◌∷◌, Some, None, Option, sym, refl, ◌∙◌, arith, MatchOption}
use Rattle.std.specs.List.{find, position, slice_get}
use Rattle.std.proofs.lemmas.Option.{slice_get-get_or}
use Rattle.byte_parts.proofs.Firsts.{position_is, position_none, find_is, find_none}
use Rattle.table.specs.Rows.{NoRow, FirstRow}

module _ {R : Type 0} (test : R → Bool) where
  -- the place that a search answers
  pub found_is : (rows : List R) (r : Option ℕ) → MatchOption r (NoRow test rows) (FirstRow test rows) → r ≡ position test rows
  found_is [] None none = refl
  found_is [] (Some i) f = let w = f.within in absurd (omega arith)
  found_is (x ∷ xs) None none = sym (position_none test (x ∷ xs) x (λ k l. none k x l))
  found_is (x ∷ xs) (Some i) f =
      sym (position_is test (x ∷ xs) i x f.within (f.here x) (λ k l. f.before k x l))

  -- the row that stands there
  pub row_found : (rows : List R) (i : ℕ) → FirstRow test rows i → slice_get rows i ≡ find test rows
  row_found [] i f = let w = f.within in absurd (omega arith)
  row_found (x ∷ xs) i f =
      slice_get-get_or (x ∷ xs) i x f.within
      ∙ sym (find_is test (x ∷ xs) i x f.within (f.here x) (λ k l. f.before k x l))

  pub no_row_found : (rows : List R) → NoRow test rows → find test rows ≡ None
  no_row_found [] none = refl
  no_row_found (x ∷ xs) none = find_none test (x ∷ xs) x (λ k l. none k x l)

  -- there is one first row at most
  pub first_once : (rows : List R) (i j : ℕ) → FirstRow test rows i → FirstRow test rows j → i ≡ j
  first_once rows i j f g = let a = found_is rows (Some i) f in let b = found_is rows (Some j) g in cc
