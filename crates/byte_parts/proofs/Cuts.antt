-- Laws of cutting a list at each place of a byte. Assumes nothing.
use Rattle.std.proofs.Common.{◌≡◌, ℕ, zero, suc, eqb, List, [], ◌∷◌, ◌++◌, sym, refl, ap, ◌∙◌, subst, ⊎_elim, arith}
use Rattle.std.proofs.lemmas.Bool.{cases_eq, eq-eqb, ne_eqb, cond-true, cond-false}
use Rattle.std.specs.List.{AllByRecursion}
use Rattle.byte_parts.specs.Places.{Free}
use Rattle.byte_parts.specs.Cut.{cut, in_front, glued}

module _ (b : ℕ) where
  pub cut_here : (cs : List ℕ) → cut b (b ∷ cs) ≡ [] ∷ cut b cs
  unfolding cut
  cut_here cs = cond-true (eqb b b) _ _ (eq-eqb b b refl)

  pub cut_other : (c : ℕ) (cs : List ℕ) → (c ≡ b → ⊥) → cut b (c ∷ cs) ≡ in_front c (cut b cs)
  unfolding cut
  cut_other c cs n = cond-false (eqb c b) _ _ (ne_eqb c b n)

  -- there is always a first piece
  pub cut_some : (cs : List ℕ) → (p : List ℕ) × (ps : List (List ℕ)) × (cut b cs ≡ p ∷ ps)
  unfolding cut
  cut_some [] = ([], [], refl)
  cut_some (c ∷ cs) =
      let rest = cut_some cs in
      ⊎_elim
      (λ e. ([], cut b cs, cond-true (eqb c b) _ _ (eq-eqb c b e)))
      (λ n. (c ∷ rest.0, rest.1, cut_other c cs n ∙ ap (in_front c) rest.2))
      (cases_eq c b)

  -- a list without the byte is one piece
  pub cut_free : (cs : List ℕ) → Free b cs → cut b cs ≡ cs ∷ []
  unfolding cut
  cut_free [] f = refl
  cut_free (c ∷ cs) f =
      cut_other c cs (f 0 (omega arith)) ∙ ap (in_front c) (cut_free cs (λ k l e. f (suc k) (omega arith) e))

  -- a place of the byte parts the pieces before it from those after it
  pub cut_at : (xs ys : List ℕ) → cut b (xs ++ (b ∷ ys)) ≡ cut b xs ++ cut b ys
  unfolding cut
  cut_at [] ys = cut_here ys
  cut_at (c ∷ xs) ys =
      let first = cut_some xs in
      ⊎_elim
      (λ e.
      let t = eq-eqb c b e in
      cond-true (eqb c b) _ _ t ∙ ap (λ l. [] ∷ l) (cut_at xs ys) ∙ ap (λ l. l ++ cut b ys) (sym (cond-true (eqb c b) _ _ t)))
      (λ n.
      cut_other c (xs ++ (b ∷ ys)) n
      ∙ ap (in_front c) (cut_at xs ys ∙ ap (λ l. l ++ cut b ys) first.2)
      ∙ ap (λ l. l ++ cut b ys) (sym (cut_other c xs n ∙ ap (in_front c) first.2)))
      (cases_eq c b)

  glued_in_front : (c : ℕ) (p : List ℕ) (ps : List (List ℕ)) → glued b ((c ∷ p) ∷ ps) ≡ c ∷ glued b (p ∷ ps)
  glued_in_front c p [] = refl
  glued_in_front c p (q ∷ ps) = refl

  -- the pieces, put together again, are the list
  pub glued_cut : (cs : List ℕ) → glued b (cut b cs) ≡ cs
  unfolding cut
  glued_cut [] = refl
  glued_cut (c ∷ cs) =
      let first = cut_some cs in
      let whole : glued b (first.0 ∷ first.1) ≡ cs = ap (glued b) (sym first.2) ∙ glued_cut cs in
      ⊎_elim
      (λ e.
      ap (glued b) (cond-true (eqb c b) _ _ (eq-eqb c b e) ∙ ap (λ l. [] ∷ l) first.2)
      ∙ ap (λ l. b ∷ l) whole
      ∙ ap (λ x. x ∷ cs) (sym e))
      (λ n. ap (glued b) (cut_other c cs n ∙ ap (in_front c) first.2) ∙ glued_in_front c first.0 first.1 ∙ ap (λ l. c ∷ l) whole)
      (cases_eq c b)

  free_more : (c : ℕ) (cs : List ℕ) → (c ≡ b → ⊥) → Free b cs → Free b (c ∷ cs)
  free_more c cs n f zero l e = n e
  free_more c cs n f (suc k) l e = f k (omega arith) e

  -- and none of them has the byte
  pub cut_lacks : (cs : List ℕ) → AllByRecursion (Free b) (cut b cs)
  unfolding cut
  cut_lacks [] = (λ k l e. omega arith, tt)
  cut_lacks (c ∷ cs) =
      let first = cut_some cs in
      let all : AllByRecursion (Free b) (first.0 ∷ first.1) = subst (AllByRecursion (Free b)) first.2 (cut_lacks cs) in
      ⊎_elim
      (λ e. subst (AllByRecursion (Free b)) (sym (cond-true (eqb c b) _ _ (eq-eqb c b e))) (λ k l e. omega arith, cut_lacks cs))
      (λ n. subst (AllByRecursion (Free b)) (sym (cut_other c cs n ∙ ap (in_front c) first.2)) (free_more c first.0 n all.0, all.1))
      (cases_eq c b)
