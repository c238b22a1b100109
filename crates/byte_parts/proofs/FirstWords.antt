-- The first word of a text, by how much white space and how much of a word it starts with. Assumes nothing.
use Rattle.std.proofs.Common.{◌≡◌, ℕ, ◌+◌, ◌<◌, List, ◌++◌, length, get_or, take, drop, sym, refl, ap, ◌∙◌, subst, arith}
use Rattle.std.specs.List.{prefix_len}
use Rattle.std.proofs.lemmas.List.{length-take-le, length-drop, get_or_append_left, get_or-take, get_or-drop, take-append-drop, take_at, drop_at}
use Rattle.std.proofs.lemmas.List.Sums.{prefix_len-le-length}
use Rattle.std.proofs.lemmas.Bool.{not_from_true, not-true, not-false}
use Rattle.byte_parts.specs.Words.{white, dark, FirstWord}
use Rattle.byte_parts.proofs.Runs.{leading_front}
use Rattle.std.proofs.lemmas.List.Sums.{prefix_len_passes, prefix_len_stops}

-- the text from its first word on
abbrev pub onward : List ℕ → List ℕ
onward text = drop (prefix_len white text) text

-- how long that word is
abbrev pub word_size : List ℕ → ℕ
word_size text = prefix_len dark (onward text)

pub word_there : (text : List ℕ) → 0 < word_size text → FirstWord text (take (word_size text) (onward text)) (drop (word_size text) (onward text))
word_there text h =
    let s = prefix_len white text in
    let n = word_size text in
    let fits = prefix_len-le-length white text in
    let long = prefix_len-le-length dark (onward text) in
    let front : length (take s text) ≡ s = length-take-le s text fits in
    let word : length (take n (onward text)) ≡ n = length-take-le n (onward text) long in
    record {
      pad = take s text;
      shape = sym (ap (λ l. take s text ++ l) (take-append-drop n (onward text)) ∙ take-append-drop s text);
      padded = λ k l. ap white (get_or-take s text k 0 (omega arith)) ∙ prefix_len_passes white text k 0 (omega arith);
      some = omega arith;
      word = λ k l. ap dark (get_or-take n (onward text) k 0 (omega arith)) ∙ prefix_len_passes dark (onward text) k 0 (omega arith);
      ends = λ l.
          let left = length-drop n (onward text) in
          let there : n + 0 ≡ n = omega arith in
          not-false _ (ap dark (get_or-drop n (onward text) 0 0 ∙ ap (λ i. get_or (onward text) i 0) there) ∙ prefix_len_stops dark (onward text) 0 (omega arith));
    }

-- the same, at what the word and the rest were taken from
pub word_found : (text : List ℕ) (s n : ℕ) (from w rest : List ℕ) → s ≡ prefix_len white text → from ≡ drop s text → n ≡ prefix_len dark from → (n ≡ 0 → ⊥) → w ≡ take n from → rest ≡ drop n from → FirstWord text w rest
word_found text s n from w rest es ef en some ew er =
    let on : from ≡ onward text = ef ∙ ap (λ i. drop i text) es in
    let size : n ≡ word_size text = en ∙ ap (prefix_len dark) on in
    let word : w ≡ take (word_size text) (onward text) = cc in
    let left : rest ≡ drop (word_size text) (onward text) = cc in
    subst (λ l. FirstWord text w l) (sym left) (subst (λ l. FirstWord text l (drop (word_size text) (onward text))) (sym word) (word_there text (omega arith)))

module _ {text w rest : List ℕ} (h : FirstWord text w rest) where
  white_front : prefix_len white text ≡ length h.pad
  white_front =
      ap (prefix_len white) h.shape
      ∙ leading_front white h.pad (w ++ rest) 0 h.padded
      (λ _. not-true _ (ap dark (get_or_append_left w rest 0 0 h.some) ∙ h.word 0 h.some))

  onward_is : onward text ≡ w ++ rest
  onward_is = ap (λ n. drop n text) white_front ∙ ap (drop (length h.pad)) h.shape ∙ drop_at h.pad (w ++ rest) _ refl

  word_size_is : word_size text ≡ length w
  word_size_is =
      ap (prefix_len dark) onward_is
      ∙ leading_front dark w rest 0 h.word (λ l. not_from_true _ (h.ends l))

  pub word_some : 0 < word_size text
  word_some = let e = word_size_is in let s = h.some in omega arith

  pub word_is : w ≡ take (word_size text) (onward text)
  word_is = sym (ap (λ n. take n (onward text)) word_size_is ∙ ap (take (length w)) onward_is ∙ take_at w rest _ refl)

  pub word_rest : rest ≡ drop (word_size text) (onward text)
  word_rest = sym (ap (λ n. drop n (onward text)) word_size_is ∙ ap (drop (length w)) onward_is ∙ drop_at w rest _ refl)

-- a text has one first word, and one rest after it
pub one_word : {text w rest : List ℕ} {v left : List ℕ} → FirstWord text w rest → FirstWord text v left → (w ≡ v) × (rest ≡ left)
one_word h k = (word_is h ∙ sym (word_is k), word_rest h ∙ sym (word_rest k))

pub no_word : (text : List ℕ) (s n : ℕ) (from : List ℕ) → s ≡ prefix_len white text → from ≡ drop s text → n ≡ prefix_len dark from → n ≡ 0 → (w rest : List ℕ) → FirstWord text w rest → ⊥
no_word text s n from es ef en none w rest h =
    let size : n ≡ word_size text = en ∙ ap (prefix_len dark) (ef ∙ ap (λ i. drop i text) es) in
    omega (arith, word_some h)
