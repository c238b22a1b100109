-- How the pieces of a path are read from its parts. Assumes nothing.
use Rattle.std.proofs.Common.{◌≡◌, ℕ, ◌<◌, Bool, true, false, not, eqb, List, [], ◌∷◌, ◌++◌, length, filter, sym, refl, ap, ◌∙◌, ⊎_elim, arith}
use Rattle.std.specs.Str.{bytes_eq}
use Rattle.std.proofs.lemmas.List.{append_assoc, append-nil, length-append}
use Rattle.std.proofs.lemmas.List.Elements.{filter-append}
use Rattle.std.proofs.lemmas.Bool.{true≢false, cases_eq, and_parts, and_from, and_cases, and_left, not-true, not_from_false, ne_eqb, eqb-false}
use Rattle.byte_parts.specs.Cut.{cut}
use Rattle.byte_parts.specs.Places.{Free}
use Rattle.byte_parts.proofs.Cuts.{cut_free, cut_at, cut_some}
use Rattle.unix_path.specs.Paths.{slash, here, some, later, opened, pieces}

opened_append : (p : List ℕ) (ps qs : List (List ℕ)) → opened (p ∷ (ps ++ qs)) ≡ opened (p ∷ ps) ++ filter later qs
opened_append p ps qs =
    ap (λ l. filter some (p ∷ []) ++ l) (filter-append later ps qs)
    ∙ sym (append_assoc (filter some (p ∷ [])) (filter later ps) (filter later qs))

-- what stands behind a slash is read by the rule of later pieces
pub pieces_at : (xs ys : List ℕ) → pieces (xs ++ (slash ∷ ys)) ≡ pieces xs ++ filter later (cut slash ys)
pieces_at xs ys =
    let first = cut_some slash xs in
    ap opened (cut_at slash xs ys ∙ ap (λ l. l ++ cut slash ys) first.2)
    ∙ opened_append first.0 first.1 (cut slash ys)
    ∙ ap (λ l. opened l ++ filter later (cut slash ys)) (sym first.2)

pub pieces_free : (xs : List ℕ) → Free slash xs → pieces xs ≡ filter some (xs ∷ [])
pieces_free xs f = ap opened (cut_free slash xs f) ∙ append-nil (filter some (xs ∷ []))

pub pieces_nil : pieces [] ≡ []
unfolding cut
pieces_nil = refl

-- a slash at the end opens nothing
pub pieces_slash : (xs : List ℕ) → pieces (xs ++ (slash ∷ [])) ≡ pieces xs
unfolding cut
pieces_slash xs = pieces_at xs [] ∙ append-nil (pieces xs)

-- behind f a piece is read where it passes the test
pub record Reading (test : List ℕ → Bool) (f : List ℕ) : Type 0 where
  pub reads : (x : List ℕ) → Free slash x → pieces (f ++ x) ≡ pieces f ++ filter test (x ∷ [])
  pub grows : (x y : List ℕ) → test x ≡ true → test (x ++ y) ≡ true

-- a piece of some length is not empty, and the other way round
pub some_long : (x : List ℕ) → 0 < length x → some x ≡ true
some_long x l = not_from_false _ (ne_eqb (length x) 0 (λ e. omega arith))

pub long_some : (x : List ℕ) → some x ≡ true → 0 < length x
long_some x s = let n = eqb-false (length x) 0 (not-true _ s) in ⊎_elim (λ e. absurd (n e)) (λ d. omega arith) (cases_eq (length x) 0)

some_grows : (x y : List ℕ) → some x ≡ true → some (x ++ y) ≡ true
some_grows x y s = let l = long_some x s in some_long (x ++ y) (omega (arith, length-append x y))

here_grows : (x y : List ℕ) → some x ≡ true → bytes_eq x here ≡ false → bytes_eq (x ++ y) here ≡ false
here_grows [] y s h = absurd (omega (arith, long_some [] s))
here_grows (c ∷ []) y s h =
    ⊎_elim (λ f. and_left (eqb c 46) (bytes_eq y []) f) (λ f. absurd (true≢false f)) (and_cases (eqb c 46) true h)
here_grows (c ∷ d ∷ ds) y s h = h

later_grows : (x y : List ℕ) → later x ≡ true → later (x ++ y) ≡ true
later_grows x y h =
    let both = and_parts (some x) (not (bytes_eq x here)) h in
    and_from (some (x ++ y)) _ (some_grows x y both.0) (not_from_false _ (here_grows x y both.0 (not-true _ both.1)))

pub reading_nil : Reading some []
reading_nil =
    record {
      reads = λ x f. pieces_free x f ∙ ap (λ l. l ++ filter some (x ∷ [])) (sym pieces_nil);
      grows = some_grows;
    }

pub reading_slash : (u : List ℕ) → Reading later (u ++ (slash ∷ []))
reading_slash u =
    record {
      reads = λ x f.
          ap pieces (append_assoc u (slash ∷ []) x)
          ∙ pieces_at u x
          ∙ ap (λ l. l ++ filter later (cut slash x)) (sym (pieces_slash u))
          ∙ ap (λ l. pieces (u ++ (slash ∷ [])) ++ filter later l) (cut_free slash x f);
      grows = later_grows;
    }
