-- The first element that passes a test, by what stands at each place. Assumes nothing.
use Rattle.std.proofs.Common.{◌≡◌, ℕ, zero, suc, ◌<◌, Bool, true, false, not, ltb, List, [], ◌∷◌, length, get_or, Some, None, sym, refl, ap, ◌∙◌, ⊎_elim, arith}
use Rattle.std.specs.List.{find, position, position_or_len}
use Rattle.std.proofs.lemmas.Bool.{cases_Bool, cond-true, cond-false, le-ltb, lt-ltb, ltb-false, not-true}
use Rattle.std.proofs.lemmas.List.Sums.{prefix_len_is, prefix_len_passes}

module _ {X : Type 0} (test : X → Bool) where
  -- what a place of the first element that passes means, and that there is none
  pub position_is : (xs : List X) (i : ℕ) (d : X) → i < length xs → test (get_or xs i d) ≡ true → ((k : ℕ) → k < i → test (get_or xs k d) ≡ false) → position test xs ≡ Some i
  position_is xs i d l here before =
      let found : position_or_len test xs ≡ i = prefix_len_is (λ x. not (test x)) xs i d (omega arith) (λ k h. ap not (before k h)) (λ _. ap not here) in
      cond-true (ltb (position_or_len test xs) (length xs)) _ None (lt-ltb _ _ (omega arith)) ∙ ap Some found

  pub position_none : (xs : List X) (d : X) → ((k : ℕ) → k < length xs → test (get_or xs k d) ≡ false) → position test xs ≡ None
  position_none xs d none =
      let past : position_or_len test xs ≡ length xs = prefix_len_is (λ x. not (test x)) xs (length xs) d (omega arith) (λ k h. ap not (none k h)) (λ h. absurd (omega arith)) in
      cond-false (ltb (position_or_len test xs) (length xs)) _ None (le-ltb _ _ (omega arith))

  pub find_is : (xs : List X) (i : ℕ) (d : X) → i < length xs → test (get_or xs i d) ≡ true → ((k : ℕ) → k < i → test (get_or xs k d) ≡ false) → find test xs ≡ Some (get_or xs i d)
  find_is [] i d l here before = absurd (omega arith)
  find_is (x ∷ xs) zero d l here before = cond-true (test x) (Some x) _ here
  find_is (x ∷ xs) (suc i) d l here before =
      cond-false (test x) (Some x) _ (before 0 (omega arith))
      ∙ find_is xs i d (omega arith) here (λ k h. before (suc k) (omega arith))

  pub find_none : (xs : List X) (d : X) → ((k : ℕ) → k < length xs → test (get_or xs k d) ≡ false) → find test xs ≡ None
  find_none [] d none = refl
  find_none (x ∷ xs) d none =
      cond-false (test x) (Some x) _ (none 0 (omega arith))
      ∙ find_none xs d (λ k h. none (suc k) (omega arith))

  -- the first element that passes, by its place
  pub find_inv : (xs : List X) (x : X) → find test xs ≡ Some x → (i : ℕ) × (i < length xs) × ((d : X) → get_or xs i d ≡ x) × (test x ≡ true) × ((k : ℕ) (d : X) → k < i → test (get_or xs k d) ≡ false)
  find_inv [] x e = let z : ◌≡◌ {A = ℕ} 0 1 = cc in absurd (omega arith)
  find_inv (y ∷ xs) x e =
      ⊎_elim
      (λ t.
      let u = cond-true (test y) (Some y) (find test xs) t in
      let same : y ≡ x = cc in
      (0, omega arith, λ d. same, ap test (sym same) ∙ t, λ k d l. absurd (omega arith)))
      (λ f.
      let later = find_inv xs x (sym (cond-false (test y) (Some y) (find test xs) f) ∙ e) in
      (suc later.0, omega (arith, later.1), later.2, later.3, λ k d l. before f later.0 later.4 k d l))
      (cases_Bool (test y))
    where
      before : test y ≡ false → (i : ℕ) → ((k : ℕ) (d : X) → k < i → test (get_or xs k d) ≡ false) → (k : ℕ) (d : X) → k < suc i → test (get_or (y ∷ xs) k d) ≡ false
      before f i rest zero d l = f
      before f i rest (suc k) d l = rest k d (omega arith)

  pub find_gone : (xs : List X) → find test xs ≡ None → (k : ℕ) (d : X) → k < length xs → test (get_or xs k d) ≡ false
  find_gone [] e k d l = absurd (omega arith)
  find_gone (y ∷ xs) e k d l =
      ⊎_elim
      (λ t.
      let u = cond-true (test y) (Some y) (find test xs) t in
      let z : ◌≡◌ {A = ℕ} 0 1 = cc in
      absurd (omega arith))
      (λ f. each f (find_gone xs (sym (cond-false (test y) (Some y) (find test xs) f) ∙ e)) k l)
      (cases_Bool (test y))
    where
      each : test y ≡ false → ((j : ℕ) (d : X) → j < length xs → test (get_or xs j d) ≡ false) → (j : ℕ) → j < suc (length xs) → test (get_or (y ∷ xs) j d) ≡ false
      each f rest zero h = f
      each f rest (suc j) h = rest j d (omega arith)

  -- where there is no place none passes
  pub position_gone : (xs : List X) → position test xs ≡ None → (k : ℕ) (d : X) → k < length xs → test (get_or xs k d) ≡ false
  position_gone xs e k d l =
      ⊎_elim
      (λ t.
      let u = cond-true (ltb (position_or_len test xs) (length xs)) (Some (position_or_len test xs)) None t in
      let z : ◌≡◌ {A = ℕ} 0 1 = cc in
      absurd (omega arith))
      (λ f.
      let past = ltb-false _ _ f in
      not-true _ (prefix_len_passes (λ x. not (test x)) xs k d (omega arith)))
      (cases_Bool (ltb (position_or_len test xs) (length xs)))
