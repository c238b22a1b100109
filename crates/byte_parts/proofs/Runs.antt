-- The longest front of a list that passes a test, by places. Assumes nothing.
use Rattle.std.proofs.Common.{◌≡◌, ℕ, ◌-◌, ◌<◌, ◌≤◌, Bool, true, false, List, ◌++◌, reverse, length, get_or, sym, refl, ap, ◌∙◌, arith}
use Rattle.std.specs.List.{prefix_len, suffix_len}
use Rattle.std.proofs.lemmas.List.{length-append, length-reverse, get_or_append_left, get_or-append_right, get_or-reverse}
use Rattle.std.proofs.lemmas.List.Sums.{prefix_len_is, prefix_len_passes, prefix_len_stops}

module _ {X : Type 0} (p : X → Bool) where
  -- how long the run at the end is, where the first n elements are left
  pub ending_is : (xs : List X) (n : ℕ) (d : X) → n ≤ length xs → ((k : ℕ) → n ≤ k → k < length xs → p (get_or xs k d) ≡ true) → (0 < n → p (get_or xs (n - 1) d) ≡ false) → suffix_len p xs ≡ length xs - n
  ending_is xs n d l all stop =
      let long = length-reverse xs in
      prefix_len_is p (reverse xs) (length xs - n) d (omega arith)
      (λ k h. ap p (get_or-reverse xs k d (omega arith)) ∙ all (length xs - 1 - k) (omega arith) (omega arith))
      (λ h.
      let same : length xs - 1 - (length xs - n) ≡ n - 1 = omega arith in
      ap p (get_or-reverse xs (length xs - n) d (omega arith) ∙ ap (λ i. get_or xs i d) same) ∙ stop (omega arith))

  -- a front whose elements pass, before a list that starts with one that does not
  pub leading_front : (xs ys : List X) (d : X) → ((k : ℕ) → k < length xs → p (get_or xs k d) ≡ true) → (0 < length ys → p (get_or ys 0 d) ≡ false) → prefix_len p (xs ++ ys) ≡ length xs
  leading_front xs ys d all stop =
      let long = length-append xs ys in
      prefix_len_is p (xs ++ ys) (length xs) d (omega arith)
      (λ k h. ap p (get_or_append_left xs ys d k h) ∙ all k h)
      (λ h.
      let none : length xs - length xs ≡ 0 = omega arith in
      ap p (get_or-append_right xs ys (length xs) (length xs) d refl (omega arith) ∙ ap (λ i. get_or ys i d) none) ∙ stop (omega arith))

  -- each element of the run at the end passes, and the one before it does not
  pub ending_yes : (xs : List X) (k : ℕ) (d : X) → length xs - suffix_len p xs ≤ k → k < length xs → p (get_or xs k d) ≡ true
  ending_yes xs k d low high =
      let same : length xs - 1 - (length xs - 1 - k) ≡ k = omega arith in
      sym (ap p (get_or-reverse xs (length xs - 1 - k) d (omega arith) ∙ ap (λ i. get_or xs i d) same))
      ∙ prefix_len_passes p (reverse xs) (length xs - 1 - k) d (omega arith)

  pub ending_no : (xs : List X) (d : X) → suffix_len p xs < length xs → p (get_or xs (length xs - suffix_len p xs - 1) d) ≡ false
  ending_no xs d h =
      let long = length-reverse xs in
      let same : length xs - 1 - suffix_len p xs ≡ length xs - suffix_len p xs - 1 = omega arith in
      sym (ap p (get_or-reverse xs (suffix_len p xs) d (omega arith) ∙ ap (λ i. get_or xs i d) same))
      ∙ prefix_len_stops p (reverse xs) d (omega arith)
