-- The files of an image shelf are its rows. Assumes nothing.
use Rattle.std.proofs.Common.{◌≡◌, ℕ, ◌+◌, true, false, List, [], map, length, get_or, take, drop, is_some, Some, None, unwrap_or, sym, refl, ap, ◌∙◌, subst, ⊎_elim, arith}
use Rattle.std.specs.Option.{option_map}
use Rattle.std.specs.List.{slice_get}
use Rattle.std.proofs.lemmas.List.{length-drop, length-map, length-take-le}
use Rattle.std.proofs.lemmas.Option.{slice_get-get_or, slice_get_past}
use Rattle.std.proofs.lemmas.Bool.{and_parts, cases_lt, cond-false, cond-true, leb-true, not-false}
use Rattle.byte_parts.specs.Parts.{PartOf}
use Rattle.byte_parts.specs.Spans.{inside, read_of}
use Rattle.byte_parts.specs.declared.span.Span.{Span}
use Rattle.byte_parts.proofs.Firsts.{position_gone}
use Rattle.byte_parts.proofs.Mapped.{nth_map}
use Rattle.byte_parts.proofs.Parted.{part_taken}
use Rattle.byte_parts.proofs.Spans.{stretch_there}
use Rattle.shelf.specs.Files.{FileModel}
use Rattle.shelf.proofs.Asks.{some_same}
use Rattle.image_shelf.specs.Images.{file_in, first_outside, image_files, outside}
use Rattle.image_shelf.specs.Laws.{FromRow, HasRows}
use Rattle.image_shelf.specs.declared.rows.ImageRow.{ImageRow}

module _ (bytes : List ℕ) where
  -- a span that is inside is read where it says
  span_there : (s : Span) → inside (length bytes) s ≡ true → read_of bytes s ≡ take s.len (drop s.place bytes)
  span_there s t = ap (λ o. unwrap_or o []) (stretch_there bytes s.place s.len (leb-true _ _ t))

  span_part : (s : Span) → inside (length bytes) s ≡ true → PartOf bytes s.place (read_of bytes s)
  span_part s t = subst (PartOf bytes s.place) (sym (span_there s t)) (part_taken bytes s.place s.len (leb-true _ _ t))

  span_long : (s : Span) → inside (length bytes) s ≡ true → length (read_of bytes s) ≡ s.len
  span_long s t =
      let left = length-drop s.place bytes in
      let fits = leb-true (s.place + s.len) (length bytes) t in
      ap length (span_there s t) ∙ length-take-le s.len (drop s.place bytes) (omega arith)

  from_row : (row : ImageRow) → outside (length bytes) row ≡ false → FromRow bytes row (file_in bytes row)
  from_row row e =
      let tests = and_parts _ _ (not-false _ e) in
      record {
        path = span_part row.path tests.0;
        path_long = span_long row.path tests.0;
        image = read_of bytes row.image;
        stands = span_part row.image tests.1;
        image_long = span_long row.image tests.1;
        object = refl;
      }

  row_inside : (rows : List ImageRow) → first_outside bytes rows ≡ None → (i : ℕ) (row : ImageRow) → slice_get rows i ≡ Some row → outside (length bytes) row ≡ false
  row_inside rows none i row e =
      ⊎_elim
      (λ l.
      let there = slice_get-get_or rows i row l in
      let same : get_or rows i row ≡ row = cc in
      sym (ap (outside (length bytes)) same) ∙ position_gone (outside (length bytes)) rows none i row l)
      (λ past.
      let gone = slice_get_past rows i past in
      let z : ◌≡◌ {A = ℕ} 0 1 = cc in
      absurd (omega arith))
      (cases_lt i (length rows))

  -- so it is of what a shelf has
  pub has_rows : (rows : List ImageRow) (files : List FileModel) → files ≡ image_files bytes rows → HasRows bytes rows files
  has_rows rows files e = (
    λ none.
        let all : files ≡ map (file_in bytes) rows = e ∙ cond-false _ _ _ (ap is_some none) in
        record {
          count = ap length all ∙ length-map rows (file_in bytes);
          each = λ i row file there found.
              let same = some_same (file_in bytes row) file (sym (ap (option_map (file_in bytes)) there) ∙ sym (nth_map (file_in bytes) rows i) ∙ ap (λ l. slice_get l i) (sym all) ∙ found) in
              subst (FromRow bytes row) same (from_row row (row_inside rows none i row there));
        },
    λ place some. e ∙ cond-true _ _ _ (ap is_some some),
  )
