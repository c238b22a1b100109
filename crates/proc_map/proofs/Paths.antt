-- The path behind a line's words, by the white space around it. Assumes nothing.
use Rattle.std.proofs.Common.{◌≡◌, ℕ, ◌+◌, ◌-◌, ◌<◌, false, List, ◌++◌, length, get_or, take, drop, sym, refl, ap, ◌∙◌, subst, ⊎_elim, arith}
use Rattle.std.specs.List.{prefix_len, suffix_len}
use Rattle.std.proofs.lemmas.List.{length-append, length-drop, length-take-le, get_or_append_left, get_or-append_right, get_or-take, get_or-drop, take-append-drop, take_at, drop_at}
use Rattle.std.proofs.lemmas.List.Sums.{prefix_len-le-length}
use Rattle.std.proofs.lemmas.Bool.{cases_lt, both_ways, not-true, not_from_false}
use Rattle.byte_parts.specs.Words.{white, dark, Only}
use Rattle.byte_parts.proofs.FirstWords.{onward}
use Rattle.byte_parts.proofs.Runs.{leading_front, ending_yes, ending_no, ending_is}
use Rattle.std.proofs.lemmas.List.Sums.{prefix_len_passes, prefix_len_stops}
use Rattle.proc_map.specs.Line.{PathIn}

-- how long it is without the white space at its end
abbrev pub path_size : List ℕ → ℕ
path_size rest = length (onward rest) - suffix_len white (onward rest)

-- its first byte is not white, if there is one
first_dark : (rest : List ℕ) → 0 < length (onward rest) → white (get_or (onward rest) 0 0) ≡ false
first_dark rest h =
    let left = length-drop (prefix_len white rest) rest in
    let there : prefix_len white rest + 0 ≡ prefix_len white rest = omega arith in
    ap white (get_or-drop (prefix_len white rest) rest 0 0 ∙ ap (λ i. get_or rest i 0) there) ∙ prefix_len_stops white rest 0 (omega arith)

pub path_there : (rest : List ℕ) → 0 < path_size rest → PathIn rest (prefix_len white rest) (take (path_size rest) (onward rest))
path_there rest h =
    let gap = prefix_len white rest in
    let n = path_size rest in
    let on = onward rest in
    let fits = prefix_len-le-length white rest in
    let left = length-drop n on in
    let size : length (take n on) ≡ n = length-take-le n on (omega arith) in
    let last : length (take n on) - 1 ≡ length on - suffix_len white on - 1 = omega arith in
    record {
      before = take gap rest;
      after = drop n on;
      shape = sym (ap (λ l. take gap rest ++ l) (take-append-drop n on) ∙ take-append-drop gap rest);
      gapped = length-take-le gap rest fits;
      blank_before = λ k l. let short = length-take-le gap rest fits in ap white (get_or-take gap rest k 0 (omega arith)) ∙ prefix_len_passes white rest k 0 (omega arith);
      blank_after = λ k l. ap white (get_or-drop n on k 0) ∙ ending_yes white on (n + k) 0 (omega arith) (omega arith);
      some = omega arith;
      first = not_from_false _ (ap white (get_or-take n on 0 0 h) ∙ first_dark rest (omega arith));
      last = not_from_false _ (ap white (get_or-take n on (length (take n on) - 1) 0 (omega arith) ∙ ap (λ i. get_or on i 0) last) ∙ ending_no white on 0 (omega arith));
    }

pub all_blank : (rest : List ℕ) → path_size rest ≡ 0 → Only white rest
all_blank rest none k l =
    let left = length-drop (prefix_len white rest) rest in
    ⊎_elim
    (λ some. absurd (both_ways _ (first_dark rest some) (ending_yes white (onward rest) 0 0 (omega arith) some)))
    (λ empty. prefix_len_passes white rest k 0 (omega arith))
    (cases_lt 0 (length (onward rest)))

-- the same two, at what the gap and the path were found by
module _ (rest : List ℕ) (gap e : ℕ) (from : List ℕ) (found : gap ≡ prefix_len white rest) (on : from ≡ drop gap rest) (run : e ≡ suffix_len white from) where
  from_is : from ≡ onward rest
  from_is = on ∙ ap (λ n. drop n rest) found

  size_from : length from - e ≡ path_size rest
  size_from = ap (λ n. length from - n) run ∙ ap (λ l. length l - suffix_len white l) from_is

  pub path_found : (path : List ℕ) → (length from - e ≡ 0 → ⊥) → path ≡ take (length from - e) from → PathIn rest gap path
  path_found path some is =
      let same = size_from in
      let where_from = from_is in
      let whole : path ≡ take (path_size rest) (onward rest) = cc in
      subst (λ g. PathIn rest g path) (sym found) (subst (PathIn rest (prefix_len white rest)) (sym whole) (path_there rest (omega arith)))

  pub blank_found : length from - e ≡ 0 → Only white rest
  blank_found none = all_blank rest (sym size_from ∙ none)

module _ {rest : List ℕ} {gap : ℕ} {path : List ℕ} (h : PathIn rest gap path) where
  pub gap_is : gap ≡ prefix_len white rest
  gap_is =
      sym h.gapped
      ∙ sym (leading_front white h.before (path ++ h.after) 0 h.blank_before (λ _. not-true _ (ap dark (get_or_append_left path h.after 0 0 h.some) ∙ h.first)))
      ∙ ap (prefix_len white) (sym h.shape)

  onward_is : onward rest ≡ path ++ h.after
  onward_is =
      ap (λ n. drop n rest) (sym gap_is) ∙ ap (drop gap) h.shape ∙ drop_at h.before (path ++ h.after) gap h.gapped

  size_is : path_size rest ≡ length path
  size_is =
      let both = length-append path h.after in
      let some = h.some in
      let run : suffix_len white (path ++ h.after) ≡ length (path ++ h.after) - length path =
      ending_is white (path ++ h.after) (length path) 0 (omega arith)
      (λ k low high. ap white (get_or-append_right path h.after (length path) k 0 refl low) ∙ h.blank_after (k - length path) (omega arith))
      (λ _. not-true _ (ap dark (get_or_append_left path h.after 0 (length path - 1) (omega arith)) ∙ h.last))
      in
      ap (λ l. length l - suffix_len white l) onward_is ∙ omega arith

  pub path_is : path ≡ take (path_size rest) (onward rest)
  path_is = sym (ap (λ n. take n (onward rest)) size_is ∙ ap (take (length path)) onward_is ∙ take_at path h.after _ refl)

  pub not_all_blank : Only white rest → ⊥
  not_all_blank all =
      let some = h.some in
      let left = length-drop (prefix_len white rest) rest in
      let long = ap length onward_is ∙ length-append path h.after in
      both_ways _ (prefix_len_stops white rest 0 (omega arith)) (all (prefix_len white rest) (omega arith))
