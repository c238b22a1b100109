-- The lines of maps: what a cursor gives, and what they are together. Assumes nothing.
use Rattle.std.proofs.Common.{◌≡◌, ℕ, ◌+◌, ◌-◌, eqb, List, [], ◌∷◌, map, length, take, drop, sym, refl, ap, ◌∙◌, subst, ⊎_elim, arith}
use Rattle.std.specs.List.{prefix_len, suffix_len, AllByRecursion}
use Rattle.std.proofs.lemmas.List.{append-nil, length-drop, nil_from_length}
use Rattle.std.proofs.lemmas.List.Sums.{prefix_len-le-length}
use Rattle.std.proofs.lemmas.Bool.{cases_eq, cases_lt, cond-true, cond-false, eq-eqb, ne_eqb}
use Rattle.byte_parts.specs.Cut.{cut, glued}
use Rattle.byte_parts.specs.Parts.{PartOf}
use Rattle.byte_parts.specs.Places.{Free, First}
use Rattle.byte_parts.specs.Words.{white}
use Rattle.byte_parts.proofs.Cuts.{cut_free, cut_lacks, glued_cut}
use Rattle.byte_parts.proofs.FirstWords.{onward}
use Rattle.byte_parts.proofs.Parted.{cut_first, length_front, part_front, part_back, part_taken}
use Rattle.proc_map.specs.Maps.{Line, placed, trimmed, map_lines, LinesOf, Trims}
use Rattle.proc_map.proofs.Paths.{path_size, path_there, all_blank}

abbrev line : ℕ → List ℕ → Line
line place bytes = record { place = place; bytes = bytes }

-- the line before a line feed, and those after it
pub lines_more : (place : ℕ) (rest : List ℕ) (i : ℕ) (front back : List ℕ) → First 10 rest i → front ≡ take i rest → back ≡ drop (i + 1) rest → placed place (cut 10 rest) ≡ line place front ∷ placed (place + i + 1) (cut 10 back)
lines_more place rest i front back f before after =
    ap (placed place) (cut_first f)
    ∙ ap (λ n. line place (take i rest) ∷ placed (place + n + 1) (cut 10 (drop (i + 1) rest))) (length_front f)
    ∙ sym (λ j. line place (before j) ∷ placed (place + i + 1) (cut 10 (after j)))

-- the last line
pub lines_last : (place : ℕ) (rest : List ℕ) → Free 10 rest → placed place (cut 10 rest) ≡ line place rest ∷ []
lines_last place rest f = ap (placed place) (cut_free 10 rest f)

placed_bytes : (place : ℕ) (ps : List (List ℕ)) → map (λ l. l.bytes) (placed place ps) ≡ ps
placed_bytes place [] = refl
placed_bytes place (p ∷ ps) = ap (λ l. p ∷ l) (placed_bytes (place + length p + 1) ps)

placed_free : (place : ℕ) (ps : List (List ℕ)) → AllByRecursion (Free 10) ps → AllByRecursion (λ l. Free 10 l.bytes) (placed place ps)
placed_free place [] h = tt
placed_free place (p ∷ ps) h = (h.0, placed_free (place + length p + 1) ps h.1)

placed_parts : (maps : List ℕ) (place : ℕ) (ps : List (List ℕ)) → PartOf maps place (glued 10 ps) → AllByRecursion (λ l. PartOf maps l.place l.bytes) (placed place ps)
placed_parts maps place [] h = tt
placed_parts maps place (p ∷ []) h = (h, tt)
placed_parts maps place (p ∷ q ∷ ps) h =
    let back = part_back (10 ∷ []) (glued 10 (q ∷ ps)) (part_back p (10 ∷ glued 10 (q ∷ ps)) h) in
    (part_front p (10 ∷ glued 10 (q ∷ ps)) h, placed_parts maps (place + length p + 1) (q ∷ ps) back)

trimmed_part : (maps : List ℕ) → PartOf maps (prefix_len white maps) (trimmed maps)
trimmed_part maps =
    let fits = prefix_len-le-length white maps in
    let left = length-drop (prefix_len white maps) maps in
    part_taken maps (prefix_len white maps) (length (drop (prefix_len white maps) maps) - suffix_len white (drop (prefix_len white maps) maps)) (omega arith)

trims_of : (maps : List ℕ) → Trims maps (trimmed maps)
trims_of maps =
    ⊎_elim
    (λ some.
    let h = path_there maps some in
    record {
      before = h.before;
      after = h.after;
      shape = h.shape;
      blank_before = h.blank_before;
      blank_after = h.blank_after;
      first = λ _. h.first;
      last = λ _. h.last;
    })
    (λ none.
    let size : path_size maps ≡ 0 = omega arith in
    let empty : trimmed maps ≡ [] = ap (λ n. take n (onward maps)) size in
    subst (Trims maps) (sym empty)
    (record {
      before = maps;
      after = [];
      shape = sym (append-nil maps);
      blank_before = all_blank maps size;
      blank_after = λ k l. absurd (omega arith);
      first = λ l. absurd (omega arith);
      last = λ l. absurd (omega arith);
    }))
    (cases_lt 0 (path_size maps))

-- the lines are the trimmed maps
pub lines_of : (maps : List ℕ) → LinesOf maps (map_lines maps)
lines_of maps =
    let text = trimmed maps in
    let place = prefix_len white maps in
    ⊎_elim
    (λ none.
    let empty : map_lines maps ≡ [] = cond-true (eqb (length text) 0) _ _ (eq-eqb (length text) 0 none) in
    subst (LinesOf maps) (sym empty) (record { trims = trims_of maps; joined = sym (nil_from_length text none); whole = tt; places = tt }))
    (λ some.
    let full : map_lines maps ≡ placed place (cut 10 text) = cond-false (eqb (length text) 0) _ _ (ne_eqb (length text) 0 some) in
    subst (LinesOf maps) (sym full)
    (record {
      trims = trims_of maps;
      joined = ap (glued 10) (placed_bytes place (cut 10 text)) ∙ glued_cut 10 text;
      whole = placed_free place (cut 10 text) (cut_lacks 10 text);
      places = placed_parts maps place (cut 10 text) (subst (PartOf maps place) (sym (glued_cut 10 text)) (trimmed_part maps));
    }))
    (cases_eq (length text) 0)
