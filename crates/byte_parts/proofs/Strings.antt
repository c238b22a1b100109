-- The zero-terminated string at a place, by the first zero byte from there on. Assumes nothing.
use Rattle.std.proofs.Common.{◌≡◌, ℕ, ◌+◌, ◌<◌, List, ◌∷◌, length, get_or, take, drop, sym, refl, ap, ◌∙◌, ⊎_elim, arith}
use Rattle.std.proofs.lemmas.List.{length-append, length-drop, get_or_append_left, get_or_at, get_or-drop, take_at}
use Rattle.std.proofs.lemmas.Bool.{cases_order}
use Rattle.byte_parts.specs.Places.{Free, First}
use Rattle.byte_parts.specs.Fields.{StringAt}
use Rattle.byte_parts.specs.Parts.{PartOf}
use Rattle.byte_parts.proofs.Parted.{parted, free_front}

-- the bytes before the first zero byte
pub string_here : (xs : List ℕ) (place n : ℕ) → First 0 (drop place xs) n → StringAt xs place (take n (drop place xs))
string_here xs place n f = record { rest = drop (n + 1) (drop place xs); shape = parted f; free = free_front f }

-- a string at a place has a zero byte after it
module _ {xs : List ℕ} {place : ℕ} {s : List ℕ} (h : StringAt xs place s) where
  pub string_zero : get_or (drop place xs) (length s) 0 ≡ 0
  string_zero = ap (λ l. get_or l (length s) 0) h.shape ∙ get_or_at s 0 h.rest 0 (length s) refl

  pub string_fits : place + length s < length xs
  string_fits =
      let e = ap length h.shape ∙ length-append s (0 ∷ h.rest) in
      let d = length-drop place xs in
      omega arith

  -- by its place in the whole
  pub string_stop : get_or xs (place + length s) 0 ≡ 0
  string_stop = sym (get_or-drop place xs (length s) 0) ∙ string_zero

  pub string_part : PartOf xs place s
  string_part =
      let fits = string_fits in
      record {
        within = omega arith;
        bytes = sym (ap (take (length s)) h.shape ∙ take_at s (0 ∷ h.rest) _ refl);
      }

pub no_string : (xs : List ℕ) (place : ℕ) → Free 0 (drop place xs) → (s : List ℕ) → StringAt xs place s → ⊥
no_string xs place f s h = let d = length-drop place xs in f (length s) (omega (arith, string_fits h)) (string_zero h)

-- one string at most stands at a place
pub string_once : {xs : List ℕ} {place : ℕ} {s t : List ℕ} → StringAt xs place s → StringAt xs place t → s ≡ t
string_once {s} {t} h k =
    ⊎_elim
    (λ same. let long : length s ≡ length t = same in sym (take_at s (0 ∷ h.rest) (length s) refl) ∙ ap (take (length s)) (sym h.shape ∙ k.shape) ∙ take_at t (0 ∷ k.rest) (length s) (sym long))
    (⊎_elim (λ less. absurd (shorter h k less)) (λ more. absurd (shorter k h more)))
    (cases_order (length s) (length t))
  where
    shorter : {xs : List ℕ} {place : ℕ} {s t : List ℕ} → StringAt xs place s → StringAt xs place t → length s < length t → ⊥
    shorter {s} {t} h k less = k.free (length s) less (sym (ap (λ l. get_or l (length s) 0) k.shape ∙ get_or_append_left t (0 ∷ k.rest) 0 (length s) less) ∙ string_zero h)
