-- The last piece of a path, by the last slash of a front. Assumes nothing.
use Rattle.std.proofs.Common.{◌≡◌, ℕ, ◌+◌, ◌-◌, ◌<◌, ◌≤◌, Bool, true, false, not, List, [], ◌∷◌, ◌++◌, length, get_or, take, drop, filter, sym, ap, ◌∙◌, subst, ⊎_elim, arith}
use lib.Seq.{take-append-add}
use Rattle.std.specs.List.{between}
use Rattle.std.specs.Str.{bytes_eq}
use Rattle.std.proofs.lemmas.List.{append-nil, append_cancel_left, length-append, length_push, length-take-le, length-drop, get_or-take, get_or-drop, take-append-drop, take-append-le, take-take, take_more}
use Rattle.std.proofs.lemmas.Slice.{between_is}
use Rattle.std.proofs.lemmas.Bool.{and_parts, cases_lt, cases_Bool, cond-true, cond-false}
use Rattle.byte_parts.specs.Places.{Free, Last}
use Rattle.unix_path.specs.Paths.{slash, here, some, later, pieces}
use Rattle.unix_path.specs.LastPieces.{LastPiece}
use Rattle.unix_path.proofs.Growth.{pieces_grow}
use Rattle.unix_path.proofs.Readings.{Reading, reading_nil, reading_slash, pieces_slash, some_long, long_some}

-- a piece that is read behind f
module _ (test : List ℕ → Bool) (f x : List ℕ) (r : Reading test f) (free : Free slash x) (kept : test x ≡ true) where
  whole : pieces (f ++ x) ≡ pieces f ++ (x ∷ [])
  whole = r.reads x free ∙ ap (λ l. pieces f ++ l) (cond-true (test x) (x ∷ []) [] kept)

  -- no front of f is read as all the pieces
  outside : (n : ℕ) → n ≤ length f → pieces (take n (f ++ x)) ≡ pieces (f ++ x) → ⊥
  outside n l e =
      let grow = pieces_grow (take n f) (drop n f) in
      let joined = ap (λ z. length (pieces z)) (take-append-drop n f) in
      let front = ap (λ z. length (pieces z)) (take-append-le n f x l) in
      let size = ap length whole ∙ length_push (pieces f) x in
      let same = ap length e in
      omega arith

  -- and no front with a part of the piece
  inside : (m : ℕ) → m < length x → pieces (f ++ take m x) ≡ pieces (f ++ x) → ⊥
  inside m l e =
      let y = take m x in
      let size = length-take-le m x (omega arith) in
      let lacks : Free slash y = λ k i q. free k (omega arith) (sym (get_or-take m x k 0 (omega arith)) ∙ q) in
      let only = append_cancel_left (pieces f) (filter test (y ∷ [])) (x ∷ []) (sym (r.reads y lacks) ∙ e ∙ whole) in
      ⊎_elim
      (λ t. let q = sym (cond-true (test y) (y ∷ []) [] t) ∙ only in let z : y ≡ x = cc in omega (arith, ap length z))
      (λ t. omega (arith, ap length (sym (cond-false (test y) (y ∷ []) [] t) ∙ only)))
      (cases_Bool (test y))

  shortest : (n : ℕ) → pieces (take n (f ++ x)) ≡ pieces (f ++ x) → length f + length x ≤ n
  shortest n e =
      ⊎_elim
      (λ below. absurd (outside n (omega arith) e))
      (λ above.
      ⊎_elim
      (λ short.
      let place : n ≡ length f + (n - length f) = omega arith in
      absurd (inside (n - length f) (omega arith) (ap pieces (sym (ap (λ i. take i (f ++ x)) place ∙ take-append-add f x (n - length f))) ∙ e)))
      (λ long. long)
      (cases_lt n (length f + length x)))
      (cases_lt n (length f))

-- a front, parted at a place
front_parts : (path : List ℕ) (start end : ℕ) → start ≤ end → take end path ≡ take start path ++ between start end path
front_parts path start end l =
    sym (take-append-drop start (take end path))
    ∙ ap (λ z. z ++ drop start (take end path)) (take-take start end path l)
    ∙ ap (λ z. take start path ++ z) (sym (between_is path start end))

module _ (path : List ℕ) (end : ℕ) (fits : end ≤ length path) (all : pieces (take end path) ≡ pieces path) where
  piece_found : (test : List ℕ → Bool) (start : ℕ) → start < end → Reading test (take start path) → Free slash (between start end path) → test (between start end path) ≡ true → LastPiece path start end
  piece_found test start l r free kept =
      let f = take start path in
      let x = between start end path in
      let parts = front_parts path start end (omega arith) in
      let size = ap length parts ∙ length-append f x in
      let long = length-take-le end path fits in
      record {
        some = l;
        within = fits;
        last = sym all ∙ ap pieces parts ∙ whole test f x r free kept;
        free = free;
        enough = all;
        shortest = λ n e.
            ⊎_elim
            (λ short.
            let front = shortest test f x r free kept n (ap (λ z. pieces (take n z)) (sym parts) ∙ ap pieces (take-take n end path (omega arith)) ∙ e ∙ sym all ∙ ap pieces parts) in
            omega arith)
            (λ above. above)
            (cases_lt n end);
      }

  -- where no slash is left, the front is one piece
  pub piece_first : 0 < end → Free slash (take end path) → LastPiece path 0 end
  piece_first l free =
      let long = ap length (between_is path 0 end) ∙ length-take-le end path fits in
      piece_found some 0 l reading_nil (subst (Free slash) (sym (between_is path 0 end)) free) (some_long (between 0 end path) (omega arith))

  module _ (i : ℕ) (at : Last slash (take end path) i) where
    place_within : i < end
    place_within = let w = at.within in omega (arith, length-take-le end path fits)

    behind_slash : take (i + 1) path ≡ take i path ++ (slash ∷ [])
    behind_slash =
        let w = place_within in
        take_more path i 0 (omega arith) ∙ ap (λ b. take i path ++ (b ∷ [])) (sym (get_or-take end path i 0 w) ∙ at.here)

    read_later : Reading later (take (i + 1) path)
    read_later = subst (Reading later) (sym behind_slash) (reading_slash (take i path))

    lacks_slash : Free slash (between (i + 1) end path)
    lacks_slash k l e =
        let x = between_is path (i + 1) end in
        let size = ap length x ∙ length-drop (i + 1) (take end path) in
        at.after (i + 1 + k) (omega arith) (omega arith) (sym (get_or-drop (i + 1) (take end path) k 0) ∙ ap (λ z. get_or z k 0) (sym x) ∙ e)

    -- the piece behind the last slash is the last one
    pub piece_behind : later (between (i + 1) end path) ≡ true → LastPiece path (i + 1) end
    piece_behind kept =
        let x = between (i + 1) end path in
        let long = long_some x (and_parts (some x) (not (bytes_eq x here)) kept).0 in
        let size = ap length (between_is path (i + 1) end) ∙ length-drop (i + 1) (take end path) in
        let w = place_within in
        let reach = length-take-le end path fits in
        piece_found later (i + 1) (omega arith) read_later lacks_slash kept

    -- or it is skipped
    pub piece_skipped : later (between (i + 1) end path) ≡ false → pieces (take i path) ≡ pieces path
    piece_skipped skipped =
        let w = place_within in
        let x = between (i + 1) end path in
        sym
        (sym all
        ∙ ap pieces (front_parts path (i + 1) end (omega arith))
        ∙ read_later.reads x lacks_slash
        ∙ ap (λ l. pieces (take (i + 1) path) ++ l) (cond-false (later x) (x ∷ []) [] skipped)
        ∙ append-nil (pieces (take (i + 1) path))
        ∙ ap pieces behind_slash
        ∙ pieces_slash (take i path))
