-- How a joined path is read. Assumes nothing.
use Rattle.std.proofs.Common.{◌≡◌, ℕ, ◌+◌, ◌-◌, ◌<◌, true, false, eqb, List, [], ◌∷◌, ◌++◌, length, get_or, take, filter, sym, ap, ◌∙◌, ⊎_elim, arith}
use Rattle.std.proofs.lemmas.List.{append_assoc, get_or_append_left, take_all, take_more, nil_from_length}
use Rattle.std.proofs.lemmas.Bool.{cases_lt, cases_Bool, cond-true, cond-false, eqb-true}
use Rattle.byte_parts.specs.Cut.{cut}
use Rattle.unix_path.specs.Paths.{slash, some, later, pieces, rooted, open_ended, joined_path}
use Rattle.unix_path.proofs.Readings.{pieces_at, pieces_slash, some_long}

-- what ends with a slash, without it
before_slash : (base : List ℕ) → 0 < length base → open_ended base ≡ true → base ≡ take (length base - 1) base ++ (slash ∷ [])
before_slash base l o =
    let n = length base - 1 in
    let at = eqb-true (get_or base n 0) slash (sym (cond-true (some base) (eqb (get_or base n 0) slash) true (some_long base l)) ∙ o) in
    sym (take_all (n + 1) base (omega arith)) ∙ take_more base n 0 (omega arith) ∙ ap (λ b. take n base ++ (b ∷ [])) at

module _ (base name : List ℕ) where
  module _ (l : 0 < length base) (r : rooted name ≡ false) where
    joined_open : open_ended base ≡ true → joined_path base name ≡ base ++ name
    joined_open o = cond-false (rooted name) _ _ r ∙ cond-true (open_ended base) _ _ o

    joined_slash : open_ended base ≡ false → joined_path base name ≡ base ++ (slash ∷ name)
    joined_slash o = cond-false (rooted name) _ _ r ∙ cond-false (open_ended base) _ _ o

    -- the name's pieces follow those of the base
    pub joined_pieces : pieces (joined_path base name) ≡ pieces base ++ filter later (cut slash name)
    joined_pieces =
        ⊎_elim
        (λ o.
        let u = take (length base - 1) base in
        let shape = before_slash base l o in
        ap pieces (joined_open o ∙ ap (λ z. z ++ name) shape ∙ append_assoc u (slash ∷ []) name)
        ∙ pieces_at u name
        ∙ ap (λ z. z ++ filter later (cut slash name)) (sym (ap pieces shape ∙ pieces_slash u)))
        (λ o. ap pieces (joined_slash o) ∙ pieces_at base name)
        (cases_Bool (open_ended base))

    -- and the root is the base's
    pub joined_root : rooted (joined_path base name) ≡ rooted base
    joined_root =
        ⊎_elim
        (λ o. ap rooted (joined_open o) ∙ ap (λ b. eqb b slash) (get_or_append_left base name 0 0 l))
        (λ o. ap rooted (joined_slash o) ∙ ap (λ b. eqb b slash) (get_or_append_left base (slash ∷ name) 0 0 l))
        (cases_Bool (open_ended base))

  pub joined_opens : (rooted name ≡ false → (base ≡ [] → ⊥) → pieces (joined_path base name) ≡ pieces base ++ filter later (cut slash name)) × (rooted name ≡ true → joined_path base name ≡ name)
  joined_opens = (
    λ r some. ⊎_elim (λ short. absurd (some (nil_from_length base (omega arith)))) (λ long. joined_pieces long r) (cases_lt (length base) 1),
    λ r. cond-true (rooted name) _ _ r,
  )
