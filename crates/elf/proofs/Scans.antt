-- The first of the numbered elements, from 1, that passes a test. Assumes nothing.
use Rattle.std.proofs.Common.{◌≡◌, ℕ, ◌+◌, ◌-◌, ◌<◌, ◌≤◌, Bool, true, false, map, get_or, Some, None, ap, ◌∙◌, arith}
use Rattle.std.specs.List.{find, range_with_len}
use Rattle.std.proofs.lemmas.List.FromFn.{length-map-range_with_len, get_or-map-range_with_len}
use Rattle.byte_parts.proofs.Firsts.{find_is, find_none}

module _ {X : Type 0} (f : ℕ → X) (test : X → Bool) (n : ℕ) where
  -- the element at a place of the list
  at_place : (i : ℕ) → i + 1 < n → get_or (map f (range_with_len 1 (n - 1))) i (f 0) ≡ f (i + 1)
  at_place i l = get_or-map-range_with_len f 1 (n - 1) i (i + 1) (f 0) (omega arith) (omega arith)

  pub scan_found : (k : ℕ) → 1 ≤ k → k < n → test (f k) ≡ true → ((j : ℕ) → 1 ≤ j → j < k → test (f j) ≡ false) → find test (map f (range_with_len 1 (n - 1))) ≡ Some (f k)
  scan_found k some l here before =
      let long = length-map-range_with_len f 1 (n - 1) in
      let back : k - 1 + 1 ≡ k = omega arith in
      let that : get_or (map f (range_with_len 1 (n - 1))) (k - 1) (f 0) ≡ f k = at_place (k - 1) (omega arith) ∙ ap f back in
      find_is test (map f (range_with_len 1 (n - 1))) (k - 1) (f 0) (omega arith)
      (ap test that ∙ here)
      (λ j h. ap test (at_place j (omega arith)) ∙ before (j + 1) (omega arith) (omega arith))
      ∙ ap Some that

  pub scan_none : ((j : ℕ) → 1 ≤ j → j < n → test (f j) ≡ false) → find test (map f (range_with_len 1 (n - 1))) ≡ None
  scan_none none =
      let long = length-map-range_with_len f 1 (n - 1) in
      find_none test (map f (range_with_len 1 (n - 1))) (f 0)
      (λ j h. ap test (at_place j (omega arith)) ∙ none (j + 1) (omega arith) (omega arith))
