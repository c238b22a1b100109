-- A name that is written into the front of a buffer, byte by byte. Assumes nothing.
use Rattle.std.proofs.Common.{◌≡◌, ℕ, ◌+◌, ◌-◌, ◌<◌, ◌≤◌, leb, List, [], ◌∷◌, ◌++◌, length, get_or, take, drop, set, Some, Option, sym, ap, ◌∙◌, arith}
use Rattle.std.specs.List.{slice_get}
use Rattle.std.proofs.lemmas.List.{append-nil, append_assoc, drop_all, drop_more, length-take-le, set-append_right, take_all, take_more}
use Rattle.std.proofs.lemmas.Option.{slice_get-get_or}
use Rattle.std.proofs.lemmas.Bool.{cond-true, le-leb}
use Rattle.shelf.specs.Questions.{with_name}

-- one more byte
pub copy_more : (name start out : List ℕ) (at b : ℕ) → at < length name → at < length start → Some b ≡ slice_get name at → out ≡ take at name ++ drop at start → set out at b ≡ take (at + 1) name ++ drop (at + 1) start
copy_more name start out at b l room there inv =
    let byte = slice_get-get_or name at 0 l in
    let same : get_or name at 0 ≡ b = cc in
    let none : at - at ≡ 0 = omega arith in
    let long = length-take-le at name (omega arith) in
    ap (λ o. set o at b) inv
    ∙ set-append_right (take at name) (drop at start) at at b long (omega arith)
    ∙ ap (λ n. take at name ++ set (drop at start) n b) none
    ∙ ap (λ l. take at name ++ set l 0 b) (drop_more start at 0 room)
    ∙ sym (ap (λ l. l ++ drop (at + 1) start) (take_more name at 0 l) ∙ append_assoc (take at name) (get_or name at 0 ∷ []) (drop (at + 1) start) ∙ ap (λ x. take at name ++ (x ∷ drop (at + 1) start)) same)

module _ (o : Option (List ℕ)) (name start : List ℕ) (is : o ≡ Some name) where
  -- a name that fits stands in the front of the buffer
  copy_fits : length name ≤ length start → name ++ drop (length name) start ≡ with_name o start
  copy_fits l = sym (ap (λ p. with_name p start) is ∙ cond-true (leb (length name) (length start)) _ _ (le-leb (length name) (length start) l))

  -- a front of the buffer that is as long as the name, and what stands behind it
  pub copy_all : (front : List ℕ) (len n : ℕ) → len ≡ length name → length name ≤ length start → len ≤ n → front ≡ take n name ++ drop n (take len start) → front ++ drop len start ≡ with_name o start
  copy_all front len n e l past inv =
      let long = length-take-le len start (omega arith) in
      ap (λ f. f ++ drop len start) (inv ∙ ap (λ t. t ++ drop n (take len start)) (take_all n name (omega arith)) ∙ ap (λ d. name ++ d) (drop_all n (take len start) (omega arith)) ∙ append-nil name)
      ∙ ap (λ k. name ++ drop k start) e
      ∙ copy_fits l
