-- Which bytes stand in a written number. Assumes nothing.
use Rattle.std.proofs.Common.{◌≡◌, ℕ, zero, suc, ◌<◌, ◌≤◌, ◌⊎◌, List, [], ◌∷◌, length, get_or, IsAscii, sym, ◌∙◌, subst, inl, inr, ⊎_elim, arith}
use Rattle.std.specs.Str.Parse.{AllDigits, without_leading_plus}
use Rattle.std.specs.Char.{digit_value}
use Rattle.std.proofs.lemmas.Str.Ascii.{IsAscii-from_reads}
use Rattle.std.proofs.lemmas.Str.Parse.{without_leading_plus_none, without_leading_plus_plus}
use Rattle.std.proofs.lemmas.Bool.{cases_eq}
use Rattle.std.proofs.lemmas.Bool.Decides.{nat_tests}
use Rattle.byte_parts.specs.Numbers.{Writes}

digit_at : (radix : ℕ) (ds : List ℕ) (k : ℕ) → AllDigits radix ds → k < length ds → digit_value (get_or ds k 0) < radix
digit_at radix [] k h l = absurd (omega arith)
digit_at radix (c ∷ cs) zero h l = h.0
digit_at radix (c ∷ cs) (suc k) h l = digit_at radix cs k h.1 (omega arith)

-- after a first plus sign each byte is a digit
pub digit_or_plus : (radix : ℕ) (text : List ℕ) → AllDigits radix (without_leading_plus text) → (k : ℕ) → k < length text → (get_or text k 0 ≡ 43) ⊎ (digit_value (get_or text k 0) < radix)
digit_or_plus radix [] h k l = absurd (omega arith)
digit_or_plus radix (c ∷ cs) h k l =
    ⊎_elim
    (λ e. plus (without_leading_plus_plus (c ∷ cs) e) e k l)
    (λ n. inr (digit_at radix (c ∷ cs) k (subst (AllDigits radix) (without_leading_plus_none (c ∷ cs) n) h) l))
    (cases_eq c 43)
  where
    plus : without_leading_plus (c ∷ cs) ≡ cs → c ≡ 43 → (j : ℕ) → j < length (c ∷ cs) → (get_or (c ∷ cs) j 0 ≡ 43) ⊎ (digit_value (get_or (c ∷ cs) j 0) < radix)
    plus a e zero i = inl e
    plus a e (suc j) i = inr (digit_at radix cs j (subst (AllDigits radix) a h) (omega arith))

small_digit : (c : ℕ) → digit_value c < 36 → c < 128
small_digit c h = grind (arith, nat_tests)

pub writes_ascii : (radix : ℕ) (text : List ℕ) (n : ℕ) → radix ≤ 36 → Writes radix text n → IsAscii text
writes_ascii radix text n r w =
    IsAscii-from_reads text (length text) (omega arith)
    (λ k l. ⊎_elim (λ e. omega arith) (λ d. small_digit _ (omega arith)) (digit_or_plus radix text w.digits.1 k l))

not_minus : (c : ℕ) → digit_value c < 36 → c ≡ 45 → ⊥
not_minus c h e = grind (arith, nat_tests)

-- a written number has no minus sign in it
pub writes_no_minus : (radix : ℕ) (text : List ℕ) (n : ℕ) → radix ≤ 36 → Writes radix text n → (k : ℕ) → k < length text → get_or text k 0 ≡ 45 → ⊥
writes_no_minus radix text n r w k l e =
    ⊎_elim (λ p. omega arith) (λ d. not_minus _ (omega arith) e) (digit_or_plus radix text w.digits.1 k l)

-- a text writes one number at most
pub writes_once : {radix : ℕ} {text : List ℕ} {m n : ℕ} → Writes radix text m → Writes radix text n → m ≡ n
writes_once h k = h.number ∙ sym k.number
