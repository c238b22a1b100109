-- The parent of a path, by the last piece and the one before it. Assumes nothing.
use Rattle.std.proofs.Common.{◌≡◌, ℕ, ◌<◌, ◌≤◌, true, false, eqb, List, [], ◌∷◌, ◌++◌, length, get_or, take, sym, ap, ◌∙◌, subst, ⊎_elim, arith}
use mir.Val.{bool_byte}
use Rattle.std.specs.List.{between}
use Rattle.std.proofs.lemmas.List.{length-take-le, get_or-take, get_or_past, take-take, take_more, nil_from_length}
use Rattle.std.proofs.lemmas.Bool.{true≢false, cases_lt, cases_Bool, cond-false, eqb-true}
use Rattle.unix_path.specs.LastPieces.{LastPiece}
use Rattle.unix_path.specs.Paths.{slash, pieces, rooted, joined_path, Alike, FileName, Parent}
use Rattle.unix_path.proofs.Joints.{joined_pieces, joined_root}
use Rattle.unix_path.proofs.Names.{one_name, name_unrooted, name_alone, name_behind}
use Rattle.unix_path.proofs.Readings.{pieces_nil, pieces_slash}

module _ {path : List ℕ} {start end : ℕ} (l : LastPiece path start end) where
  parent_from : (len : ℕ) → len ≤ length path → pieces (take len path) ≡ pieces (take start path) → rooted (take len path) ≡ rooted path → ((n : ℕ) → pieces (take n path) ≡ pieces (take start path) → rooted (take n path) ≡ rooted path → len ≤ n) → Parent path (take len path)
  parent_from len fits same root least =
      let size = length-take-le len path fits in
      record {
        final = between start end path;
        last = l.last ∙ ap (λ z. z ++ (between start end path ∷ [])) (sym same);
        root = root;
        front = ap (λ n. take n path) (sym size);
        shortest = λ n e r. let s = least n (e ∙ same) r in omega arith;
      }

  -- where another piece stands before the last one, the parent ends with it
  pub parent_before : {from len : ℕ} → LastPiece (take start path) from len → Parent path (take len path)
  parent_before {from} {len} b =
      let w = l.within in
      let s = l.some in
      let t = b.some in
      let v = b.within in
      let size = length-take-le start path (omega arith) in
      parent_from len (omega arith)
      (ap pieces (sym (take-take len start path (omega arith))) ∙ b.enough)
      (ap (λ x. eqb x slash) (get_or-take len path 0 0 (omega arith)))
      (λ n e r.
      ⊎_elim
      (λ below. b.shortest n (ap pieces (take-take n start path (omega arith)) ∙ e))
      (λ above. omega arith)
      (cases_lt n start))

  -- and else it is the root, or nothing
  pub parent_root : (len : ℕ) → len ≡ bool_byte (rooted path) → pieces (take start path) ≡ [] → Parent path (take len path)
  parent_root len e none = ⊎_elim at_root no_root (cases_Bool (rooted path))
    where
      at_root : rooted path ≡ true → Parent path (take len path)
      at_root r =
          let byte = eqb-true (get_or path 0 0) slash r in
          let long : 0 < length path =
          ⊎_elim (λ short. omega (arith, get_or_past path 0 0 (omega arith))) (λ enough. enough) (cases_lt (length path) 1) in
          subst (λ n. Parent path (take n path)) (sym (e ∙ ap bool_byte r))
          (parent_from 1 long
          (ap pieces (take_more path 0 0 long ∙ ap (λ b. b ∷ []) byte) ∙ pieces_slash [] ∙ pieces_nil ∙ sym none)
          (ap (λ x. eqb x slash) (get_or-take 1 path 0 0 (omega arith)))
          (λ n _ same.
          ⊎_elim
          (λ below. let zero : n ≡ 0 = omega arith in absurd (true≢false (sym r ∙ sym same ∙ ap (λ i. rooted (take i path)) zero)))
          (λ above. above)
          (cases_lt n 1)))

      no_root : rooted path ≡ false → Parent path (take len path)
      no_root r =
          subst (λ n. Parent path (take n path)) (sym (e ∙ ap bool_byte r))
          (parent_from 0 (omega arith) (pieces_nil ∙ sym none) (sym r) (λ n _ _. omega arith))

-- the file name under the parent is read as the path
pub reopened : {path parent name : List ℕ} → Parent path parent → FileName path name → Alike (joined_path parent name) path
reopened {path} {parent} {name} p h =
    let r = name_unrooted h in
    let whole : pieces parent ++ (name ∷ []) ≡ pieces path = ap (λ z. pieces parent ++ (z ∷ [])) (one_name h _ _ p.last) ∙ sym p.last in
    ⊎_elim
    (λ short.
    let none : parent ≡ [] = nil_from_length parent (omega arith) in
    let alone : joined_path parent name ≡ name = ap (λ z. joined_path z name) none ∙ cond-false (rooted name) _ _ r in
    record {
      same_pieces = ap pieces alone ∙ name_alone h ∙ ap (λ z. z ++ (name ∷ [])) (sym (ap pieces none ∙ pieces_nil)) ∙ whole;
      same_root = ap rooted alone ∙ r ∙ ap rooted (sym none) ∙ p.root;
    })
    (λ long.
    record {
      same_pieces = joined_pieces parent name long r ∙ ap (λ z. pieces parent ++ z) (name_behind h) ∙ whole;
      same_root = joined_root parent name long r ∙ p.root;
    })
    (cases_lt (length parent) 1)
