-- The bytes of a joined path, as they are written one part after another. Assumes nothing.
use Rattle.std.proofs.Common.{◌≡◌, ℕ, ◌+◌, ◌-◌, ◌<◌, ◌≤◌, true, false, cond, not, List, [], ◌∷◌, ◌++◌, length, drop, set, sym, refl, ap, ◌∙◌, ⊎_elim, add-zero, arith}
use borrow.Rule.Slice.PartMut.{put_mid}
use mir.Val.{bool_byte}
use Rattle.std.proofs.lemmas.List.{append_assoc, append-nil, length-append, drop_at, drop-drop, drop_more, set_at, take_at}
use Rattle.std.proofs.lemmas.Bool.{cases_Bool, cond-true, cond-false}
use Rattle.unix_path.specs.Paths.{slash, rooted, open_ended, joined_path}

-- what stands between the front and the name
abbrev pub gap : List ℕ → List ℕ
gap front = cond (open_ended front) [] (slash ∷ [])

pub joined_parts : (base name front : List ℕ) → front ≡ cond (rooted name) [] base → joined_path base name ≡ (front ++ gap front) ++ name
joined_parts base name front e = ⊎_elim alone under (cases_Bool (rooted name))
  where
    alone : rooted name ≡ true → joined_path base name ≡ (front ++ gap front) ++ name
    alone r =
        cond-true (rooted name) _ _ r
        ∙ ap (λ f. (f ++ gap f) ++ name) (sym (e ∙ cond-true (rooted name) [] base r))

    under : rooted name ≡ false → joined_path base name ≡ (front ++ gap front) ++ name
    under r =
        cond-false (rooted name) _ _ r
        ∙ ⊎_elim
        (λ o. cond-true (open_ended base) _ _ o ∙ ap (λ g. g ++ name) (sym (ap (λ g. base ++ g) (cond-true (open_ended base) _ _ o) ∙ append-nil base)))
        (λ o.
        cond-false (open_ended base) _ _ o
        ∙ sym (ap (λ g. (base ++ g) ++ name) (cond-false (open_ended base) _ _ o) ∙ append_assoc base (slash ∷ []) name))
        (cases_Bool (open_ended base))
        ∙ ap (λ f. (f ++ gap f) ++ name) (sym (e ∙ cond-false (rooted name) [] base r))

module _ (front : List ℕ) (k : ℕ) (e : k ≡ bool_byte (not (open_ended front))) where
  gap_size : length (gap front) ≡ k
  gap_size =
      ⊎_elim
      (λ o. ap length (cond-true (open_ended front) _ _ o) ∙ sym (e ∙ ap (λ b. bool_byte (not b)) o))
      (λ o. ap length (cond-false (open_ended front) _ _ o) ∙ sym (e ∙ ap (λ b. bool_byte (not b)) o))
      (cases_Bool (open_ended front))

  start_is : length (front ++ gap front) ≡ length front + k
  start_is = length-append front (gap front) ∙ ap (λ n. length front + n) gap_size

  pub joined_size : (base name : List ℕ) → front ≡ cond (rooted name) [] base → length (joined_path base name) ≡ length front + k + length name
  joined_size base name f =
      ap length (joined_parts base name front f) ∙ length-append (front ++ gap front) name ∙ ap (λ n. n + length name) start_is

  -- the front is written first
  front_written : (out copied : List ℕ) → copied ≡ front → copied ++ drop (length front) out ≡ front ++ drop (length front) out
  front_written out copied same = ap (λ z. z ++ drop (length front) out) same

  -- then the slash, where it is wanted
  pub slash_written : (out copied : List ℕ) → copied ≡ front → length front < length out → length front < length front + k → set (copied ++ drop (length front) out) (length front) slash ≡ (front ++ gap front) ++ drop (length front + k) out
  slash_written out copied same l wanted =
      ap (λ z. set z (length front) slash) (front_written out copied same)
      ∙ ⊎_elim
      (λ o. let none = e ∙ ap (λ b. bool_byte (not b)) o in absurd (omega arith))
      (λ o.
      let one = e ∙ ap (λ b. bool_byte (not b)) o in
      let rest = drop (length front + 1) out in
      ap (λ z. set (front ++ z) (length front) slash) (drop_more out (length front) 0 l)
      ∙ set_at front _ rest slash (length front) refl
      ∙ sym (append_assoc front (slash ∷ []) rest)
      ∙ ap (λ z. (front ++ z) ++ rest) (sym (cond-false (open_ended front) _ _ o))
      ∙ ap (λ n. (front ++ gap front) ++ drop (length front + n) out) (sym one))
      (cases_Bool (open_ended front))

  pub slash_left : (out copied : List ℕ) → copied ≡ front → length front + k ≤ length front → copied ++ drop (length front) out ≡ (front ++ gap front) ++ drop (length front + k) out
  slash_left out copied same unwanted =
      front_written out copied same
      ∙ ⊎_elim
      (λ o.
      let none = e ∙ ap (λ b. bool_byte (not b)) o in
      ap (λ z. z ++ drop (length front) out) (sym (append-nil front))
      ∙ ap (λ z. (front ++ z) ++ drop (length front) out) (sym (cond-true (open_ended front) _ _ o))
      ∙ ap (λ n. (front ++ gap front) ++ drop n out) (sym (ap (λ n. length front + n) none ∙ add-zero (length front))))
      (λ o. let one = e ∙ ap (λ b. bool_byte (not b)) o in absurd (omega arith))
      (cases_Bool (open_ended front))

  -- and last the name
  pub name_written : (base name out so_far copied : List ℕ) (end : ℕ) → front ≡ cond (rooted name) [] base → end ≡ length front + k + length name → so_far ≡ (front ++ gap front) ++ drop (length front + k) out → copied ≡ name → put_mid (length front + k) (end - (length front + k)) so_far copied ≡ joined_path base name ++ drop end out
  name_written base name out so_far copied end f at before_name same =
      let start = length front + k in
      let before = front ++ gap front in
      let place : start + (end - start) ≡ end = omega arith in
      ap (λ z. put_mid start (end - start) z copied) before_name
      ∙ ap (λ z. put_mid start (end - start) (before ++ drop start out) z) same
      ∙ ap (λ z. z ++ (name ++ drop (end - start) (drop start (before ++ drop start out)))) (take_at before (drop start out) start start_is)
      ∙ ap (λ z. before ++ (name ++ drop (end - start) z)) (drop_at before (drop start out) start start_is)
      ∙ ap (λ z. before ++ (name ++ z)) (drop-drop (end - start) start out ∙ ap (λ n. drop n out) place)
      ∙ sym (append_assoc before name (drop end out))
      ∙ ap (λ z. z ++ drop end out) (sym (joined_parts base name front f))
