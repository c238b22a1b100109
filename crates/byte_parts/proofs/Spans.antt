-- What a stretch that is there says, and when it is there. Assumes nothing.
use Rattle.std.proofs.Common.{◌≡◌, ℕ, ◌+◌, ◌<◌, ◌≤◌, leb, List, length, take, drop, Some, None, ⊎_elim, arith}
use Rattle.std.proofs.lemmas.Bool.{cases_Bool, cond-true, cond-false, leb-true, leb-false, le-leb}
use Rattle.byte_parts.specs.Spans.{stretch}

module _ {X : Type 0} (xs : List X) (place len : ℕ) where
  pub stretch_there : place + len ≤ length xs → stretch xs place len ≡ Some (take len (drop place xs))
  stretch_there h = cond-true (leb (place + len) (length xs)) _ _ (le-leb _ _ h)

  -- a stretch that is there lies inside, and is what stands there
  pub stretch_is : (r : List X) → Some r ≡ stretch xs place len → (place + len ≤ length xs) × (r ≡ take len (drop place xs))
  stretch_is r e =
      ⊎_elim
      (λ t. let u = cond-true (leb (place + len) (length xs)) (Some (take len (drop place xs))) None t in (leb-true _ _ t, cc))
      (λ f.
      let u = cond-false (leb (place + len) (length xs)) (Some (take len (drop place xs))) None f in
      let z : ◌≡◌ {A = ℕ} 0 1 = cc in
      absurd (omega arith))
      (cases_Bool (leb (place + len) (length xs)))

  pub stretch_none : None ≡ stretch xs place len → length xs < place + len
  stretch_none e =
      ⊎_elim
      (λ t.
      let u = cond-true (leb (place + len) (length xs)) (Some (take len (drop place xs))) None t in
      let z : ◌≡◌ {A = ℕ} 0 1 = cc in
      absurd (omega arith))
      (λ f. leb-false _ _ f)
      (cases_Bool (leb (place + len) (length xs)))
