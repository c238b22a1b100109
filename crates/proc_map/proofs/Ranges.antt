-- A range of addresses, by the first dash in its word. Assumes nothing.
use Rattle.std.proofs.Common.{◌≡◌, ℕ, ◌+◌, ◌<◌, List, [], ◌∷◌, ◌++◌, length, get_or, take, drop, sym, refl, ap, ◌∙◌, subst, ⊎_elim, arith, lit≤}
use Rattle.std.proofs.lemmas.List.{get_or_append_left, get_or_at, take_at, drop_at, length-append, append_assoc}
use Rattle.std.proofs.lemmas.Bool.{cases_order}
use Rattle.byte_parts.specs.Numbers.{Writes}
use Rattle.byte_parts.specs.Places.{Free, First}
use Rattle.byte_parts.proofs.Numerals.{writes_no_minus, writes_once}
use Rattle.proc_map.specs.Line.{Range}

module _ {word : List ℕ} {low high : ℕ} (r : Range word low high) where
  dash_there : get_or word (length r.left) 0 ≡ 45
  dash_there = ap (λ l. get_or l (length r.left) 0) r.shape ∙ get_or_at r.left 45 r.right 0 _ refl

  dash_within : length r.left < length word
  dash_within = let e = ap length r.shape ∙ length-append r.left (45 ∷ r.right) in omega arith

  first_dash : First 45 word (length r.left)
  first_dash =
      record {
        within = dash_within;
        here = dash_there;
        before = λ k l e. writes_no_minus 16 r.left low (lit≤ tt) r.starts k l (sym (ap (λ w. get_or w k 0) r.shape ∙ get_or_append_left r.left (45 ∷ r.right) 0 k l) ∙ e);
      }

  pub range_dash : Free 45 word → ⊥
  range_dash f = f (length r.left) dash_within dash_there

  module _ (i : ℕ) (f : First 45 word i) where
    -- no number has a dash, so that the first dash parts the two
    dash_place : i ≡ length r.left
    dash_place =
        ⊎_elim (λ e. e)
        (⊎_elim (λ l. absurd (first_dash.before i l f.here)) (λ l. absurd (f.before (length r.left) l dash_there)))
        (cases_order i (length r.left))

    pub range_starts : Writes 16 (take i word) low
    range_starts =
        let e : take i word ≡ r.left = ap (λ n. take n word) dash_place ∙ ap (take (length r.left)) r.shape ∙ take_at r.left (45 ∷ r.right) _ refl in
        subst (λ w. Writes 16 w low) (sym e) r.starts

    pub range_stops : Writes 16 (drop (i + 1) word) high
    range_stops =
        let whole : word ≡ (r.left ++ (45 ∷ [])) ++ r.right = r.shape ∙ sym (append_assoc r.left (45 ∷ []) r.right) in
        let long : length (r.left ++ (45 ∷ [])) ≡ i + 1 = length-append r.left (45 ∷ []) ∙ ap (λ n. n + 1) (sym dash_place) in
        let e : drop (i + 1) word ≡ r.right = ap (drop (i + 1)) whole ∙ drop_at (r.left ++ (45 ∷ [])) r.right (i + 1) long in
        subst (λ w. Writes 16 w high) (sym e) r.stops

pub same_range : {word : List ℕ} {low high low' high' : ℕ} → Range word low high → Range word low' high' → (low ≡ low') × (high ≡ high')
same_range {word} h k =
    let i = length h.left in
    (writes_once (range_starts h i (first_dash h)) (range_starts k i (first_dash h)), writes_once (range_stops h i (first_dash h)) (range_stops k i (first_dash h)))
