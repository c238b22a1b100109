-- Lists parted at the first place of a byte, and parts of parts. Assumes nothing.
use Rattle.std.proofs.Common.{◌≡◌, ℕ, ◌+◌, ◌-◌, ◌≤◌, List, [], ◌∷◌, ◌++◌, length, take, drop, sym, refl, ap, ◌∙◌, subst, arith}
use Rattle.std.proofs.lemmas.List.{append-nil, length-append, length-drop, length-take-le, get_or-take, take-append-drop, take_at, take-take, drop_at, drop-drop, drop_more, drop-take}
use Rattle.byte_parts.specs.Cut.{cut}
use Rattle.byte_parts.specs.Parts.{PartOf}
use Rattle.byte_parts.specs.Places.{Free, First}
use Rattle.byte_parts.proofs.Cuts.{cut_at, cut_free}

module _ {b : ℕ} {xs : List ℕ} {i : ℕ} (f : First b xs i) where
  -- what stands before it, the byte, and what follows
  pub parted : xs ≡ take i xs ++ (b ∷ drop (i + 1) xs)
  parted =
      sym (ap (λ l. take i xs ++ l) (sym (drop_more xs i 0 f.within ∙ ap (λ x. x ∷ drop (i + 1) xs) f.here)) ∙ take-append-drop i xs)

  pub length_front : length (take i xs) ≡ i
  length_front = let l = f.within in length-take-le i xs (omega arith)

  pub free_front : Free b (take i xs)
  free_front k l e = let long = length_front in f.before k (omega arith) (sym (get_or-take i xs k 0 (omega arith)) ∙ e)

  pub cut_first : cut b xs ≡ take i xs ∷ cut b (drop (i + 1) xs)
  cut_first =
      ap (cut b) parted ∙ cut_at b (take i xs) (drop (i + 1) xs) ∙ ap (λ l. l ++ cut b (drop (i + 1) xs)) (cut_free b (take i xs) free_front)

module _ {whole : List ℕ} {place : ℕ} where
  pub part_front : (xs ys : List ℕ) → PartOf whole place (xs ++ ys) → PartOf whole place xs
  part_front xs ys h =
      let long = length-append xs ys in
      let fits = h.within in
      record {
        within = omega arith;
        bytes = sym (take_at xs ys _ refl) ∙ ap (take (length xs)) h.bytes ∙ take-take (length xs) (length (xs ++ ys)) (drop place whole) (omega arith);
      }

  pub part_back : (xs ys : List ℕ) → PartOf whole place (xs ++ ys) → PartOf whole (place + length xs) ys
  part_back xs ys h =
      let long = length-append xs ys in
      let fits = h.within in
      record {
        within = omega arith;
        bytes =
            sym (drop_at xs ys _ refl)
            ∙ ap (drop (length xs)) (h.bytes ∙ ap (λ n. take n (drop place whole)) long)
            ∙ drop-take (length xs) (length ys) (drop place whole)
            ∙ ap (take (length ys)) (drop-drop (length xs) place whole);
      }

  pub part_of_part : {bs : List ℕ} {at : ℕ} {cs : List ℕ} → PartOf whole place bs → PartOf bs at cs → PartOf whole (place + at) cs
  part_of_part {bs} {at} {cs} h k =
      let fits = h.within in
      let inside = k.within in
      let room : length bs ≡ at + (length bs - at) = omega arith in
      record {
        within = omega arith;
        bytes =
            k.bytes
            ∙ ap (λ l. take (length cs) (drop at l)) (h.bytes ∙ ap (λ n. take n (drop place whole)) room)
            ∙ ap (take (length cs)) (drop-take at (length bs - at) (drop place whole))
            ∙ take-take (length cs) (length bs - at) (drop at (drop place whole)) (omega arith)
            ∙ ap (take (length cs)) (drop-drop at place whole);
      }

-- what is taken from a place on is a part
pub part_taken : (whole : List ℕ) (place n : ℕ) → place + n ≤ length whole → PartOf whole place (take n (drop place whole))
part_taken whole place n h =
    let left = length-drop place whole in
    let long : length (take n (drop place whole)) ≡ n = length-take-le n (drop place whole) (omega arith) in
    record { within = omega arith; bytes = ap (λ k. take k (drop place whole)) (sym long) }

-- what stands between two lists joined to it is a part
pub part_between : (xs bs ys : List ℕ) → PartOf (xs ++ (bs ++ ys)) (length xs) bs
part_between xs bs ys =
    let long = length-append xs (bs ++ ys) in
    let more = length-append bs ys in
    record {
      within = omega arith;
      bytes = sym (ap (take (length bs)) (drop_at xs (bs ++ ys) _ refl) ∙ take_at bs ys _ refl);
    }

pub part_end : (xs bs : List ℕ) → PartOf (xs ++ bs) (length xs) bs
part_end xs bs = subst (λ l. PartOf (xs ++ l) (length xs) bs) (append-nil bs) (part_between xs bs [])
