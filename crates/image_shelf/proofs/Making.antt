-- The rows of a shelf while their images are read one after another. Assumes nothing.
use Rattle.std.proofs.Common.{◌≡◌, ℕ, ◌+◌, ◌<◌, ◌≤◌, List, [], ◌∷◌, ◌++◌, map, length, get_or, take, drop, set, is_some, is_err, Some, None, Option, sym, refl, ap, ◌∙◌, subst, arith}
use Rattle.std.proofs.lemmas.List.Edits.{map_over_more}
use Rattle.std.proofs.lemmas.List.{append-nil, drop_all, take_all, get_or-map, length-map}
use Rattle.byte_parts.specs.Spans.{read_of}
use Rattle.elf.specs.Classes.{elf64}
use Rattle.elf.specs.Layouts.{layout_of}
use Rattle.elf.specs.declared.layout.Layout.{Layout}
use Rattle.shelf.specs.Faults.{verdict}
use Rattle.image_shelf.specs.Images.{AllLaid, Laid, file_in, with_layout}
use Rattle.image_shelf.specs.declared.rows.ImageRow.{ImageRow}

module _ (bytes : List ℕ) where
  -- one more row has its layout
  pub laid_more : (xs ys : List ImageRow) (i : ℕ) (x : ImageRow) (l : Option Layout) → i < length xs → ys ≡ map (with_layout bytes) (take i xs) ++ drop i xs → x ≡ get_or ys i x → l ≡ layout_of elf64 (read_of bytes x.image) → set ys i (record { path = x.path; image = x.image; layout = l }) ≡ map (with_layout bytes) (take (i + 1) xs) ++ drop (i + 1) xs
  laid_more xs ys i x l within inv here e =
      ap (λ o. set ys i (record { path = x.path; image = x.image; layout = o })) e
      ∙ map_over_more (with_layout bytes) xs ys i x within inv here

  pub laid_all : (xs ys : List ImageRow) (i : ℕ) → length xs ≤ i → ys ≡ map (with_layout bytes) (take i xs) ++ drop i xs → ys ≡ map (with_layout bytes) xs
  laid_all xs ys i past inv =
      inv
      ∙ ap (λ l. map (with_layout bytes) l ++ drop i xs) (take_all i xs past)
      ∙ ap (λ l. map (with_layout bytes) xs ++ l) (drop_all i xs past)
      ∙ append-nil (map (with_layout bytes) xs)

  -- then each row keeps the layout of its image
  pub all_laid : (xs ys : List ImageRow) → ys ≡ map (with_layout bytes) xs → AllLaid bytes ys
  all_laid xs ys e i d l =
      let long = ap length e ∙ length-map xs (with_layout bytes) in
      let there : get_or ys i d ≡ with_layout bytes (get_or xs i d) =
      ap (λ rows. get_or rows i d) e ∙ get_or-map (with_layout bytes) xs i d d (omega arith)
      in
      subst (Laid bytes) (sym there) refl

  -- and the files are those of the rows as they were
  pub same_files : (xs ys : List ImageRow) → ys ≡ map (with_layout bytes) xs → map (file_in bytes) ys ≡ map (file_in bytes) xs
  same_files xs ys e = ap (map (file_in bytes)) e ∙ files xs
    where
      files : (rows : List ImageRow) → map (file_in bytes) (map (with_layout bytes) rows) ≡ map (file_in bytes) rows
      files [] = refl
      files (r ∷ rs) = ap (λ l. file_in bytes r ∷ l) (files rs)

-- a check refuses where a row points outside
pub refused : (o : Option ℕ) → is_err (verdict o) ≡ is_some o
refused None = refl
refused (Some place) = refl
