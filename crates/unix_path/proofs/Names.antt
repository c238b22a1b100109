-- The file name of a path is its last piece. Assumes nothing.
use Rattle.std.proofs.Common.{◌≡◌, ℕ, ◌<◌, true, false, not, List, [], ◌∷◌, ◌++◌, length, get_or, filter, sym, ap, ◌∙◌, subst, ⊎_elim}
use Rattle.std.specs.List.{All, Contains}
use Rattle.std.specs.Str.{bytes_eq}
use Rattle.std.proofs.lemmas.List.Elements.{All-append, All-cons, All-contains, All-filter, All-from_recursion, All-head, All-nil, All-same, All-tail, All-weaker, Contains-push, filter_passes}
use Rattle.std.proofs.lemmas.Slice.Eq.{bytes_eq-Decides}
use Rattle.std.proofs.lemmas.List.{same_from_push}
use Rattle.std.proofs.lemmas.Bool.{cases_Bool, cond-true, and_parts, and_from, ne_eqb, not_from_false}
use Rattle.byte_parts.specs.Cut.{cut}
use Rattle.byte_parts.specs.Places.{Free}
use Rattle.byte_parts.proofs.Cuts.{cut_free, cut_lacks, cut_some}
use Rattle.unix_path.specs.Paths.{slash, here, some, later, opened, pieces, rooted, FileName}
use Rattle.unix_path.proofs.Readings.{pieces_free, some_long, long_some}

-- no piece has a slash
pieces_lack : (path : List ℕ) → All (Free slash) (pieces path)
pieces_lack path =
    let first = cut_some slash path in
    let all : All (Free slash) (first.0 ∷ first.1) = All-same (Free slash) _ _ (sym first.2) (All-from_recursion (Free slash) (cut slash path) (cut_lacks slash path)) in
    All-same (Free slash) _ _ (ap opened first.2)
    (All-append (Free slash) (filter some (first.0 ∷ [])) (filter later first.1)
    (All-filter some (Free slash) (first.0 ∷ []) (All-cons (Free slash) first.0 [] (All-head (Free slash) _ _ all) (All-nil (Free slash))))
    (All-filter later (Free slash) first.1 (All-tail (Free slash) _ _ all)))

-- and none is empty
pieces_full : (path : List ℕ) → All (λ p. some p ≡ true) (pieces path)
pieces_full path =
    let first = cut_some slash path in
    let full : List ℕ → Type 0 = λ p. some p ≡ true in
    All-same full _ _ (ap opened first.2)
    (All-append full (filter some (first.0 ∷ [])) (filter later first.1)
    (filter_passes some (first.0 ∷ []))
    (All-weaker (λ p. later p ≡ true) full (λ p h. (and_parts (some p) (not (bytes_eq p here)) h).0) (filter later first.1) (filter_passes later first.1)))

module _ {path name : List ℕ} (h : FileName path name) where
  pub one_name : (ps : List (List ℕ)) (p : List ℕ) → pieces path ≡ ps ++ (p ∷ []) → name ≡ p
  one_name ps p e = (same_from_push h.before ps name p (sym h.last ∙ e)).1

  named : (P : List ℕ → Type 0) → All P (pieces path) → P name
  named P all = All-contains P (pieces path) name all (subst (λ l. Contains l name) (sym h.last) (Contains-push h.before name))

  -- a file name has no slash, and is not empty
  pub name_free : Free slash name
  name_free = named (Free slash) (pieces_lack path)

  pub name_long : 0 < length name
  name_long = long_some name (named (λ p. some p ≡ true) (pieces_full path))

  pub name_unrooted : rooted name ≡ false
  name_unrooted = ne_eqb (get_or name 0 0) slash (name_free 0 name_long)

  -- so it is read as itself, at the start of a path and behind a slash
  pub name_alone : pieces name ≡ name ∷ []
  name_alone = pieces_free name name_free ∙ cond-true (some name) (name ∷ []) [] (some_long name name_long)

  pub name_behind : filter later (cut slash name) ≡ name ∷ []
  name_behind =
      let other = ⊎_elim (λ t. absurd (h.not_here ((bytes_eq-Decides name here).0 t))) (λ f. f) (cases_Bool (bytes_eq name here)) in
      ap (filter later) (cut_free slash name name_free)
      ∙ cond-true (later name) (name ∷ []) [] (and_from (some name) _ (some_long name name_long) (not_from_false _ other))

-- a path has one file name at most
pub one_file_name : {path name other : List ℕ} → FileName path name → FileName path other → name ≡ other
one_file_name h k = one_name h k.before _ k.last
