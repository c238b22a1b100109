-- What stands at a place of a list that is made from a number on. Assumes nothing.
use Rattle.std.proofs.Common.{◌≡◌, ℕ, zero, suc, ◌+◌, ◌-◌, ◌<◌, ◌≤◌, List, [], ◌∷◌, ◌++◌, map, length, Some, None, refl, ap, ◌∙◌, arith}
use Rattle.std.specs.List.{range_with_len, slice_get}
use Rattle.std.proofs.lemmas.List.FromFn.{get_or-map-range_with_len, length-map-range_with_len}
use Rattle.std.proofs.lemmas.Option.{slice_get-get_or, slice_get_past}

module _ {X : Type 0} (f : ℕ → X) (count at : ℕ) where
  pub nth_counted : at < count → slice_get (map f (range_with_len 1 count)) at ≡ Some (f (at + 1))
  nth_counted l =
      let long = length-map-range_with_len f 1 count in
      slice_get-get_or (map f (range_with_len 1 count)) at (f 0) (omega arith)
      ∙ ap Some (get_or-map-range_with_len f 1 count at (at + 1) (f 0) l (omega arith))

  pub nth_uncounted : count ≤ at → slice_get (map f (range_with_len 1 count)) at ≡ None
  nth_uncounted past = let long = length-map-range_with_len f 1 count in slice_get_past (map f (range_with_len 1 count)) at (omega arith)

-- what stands at a place of two lists one after the other
pub nth_front : {X : Type 0} (xs ys : List X) (i : ℕ) → i < length xs → slice_get (xs ++ ys) i ≡ slice_get xs i
nth_front [] ys i l = absurd (omega arith)
nth_front (x ∷ xs) ys zero l = refl
nth_front (x ∷ xs) ys (suc i) l = nth_front xs ys i (omega arith)

pub nth_back : {X : Type 0} (xs ys : List X) (i : ℕ) → length xs ≤ i → slice_get (xs ++ ys) i ≡ slice_get ys (i - length xs)
nth_back [] ys i l = let same : i ≡ i - 0 = omega arith in ap (slice_get ys) same
nth_back (x ∷ xs) ys zero l = absurd (omega arith)
nth_back (x ∷ xs) ys (suc i) l =
    let same : i - length xs ≡ suc i - suc (length xs) = omega arith in
    nth_back xs ys i (omega arith) ∙ ap (slice_get ys) same
