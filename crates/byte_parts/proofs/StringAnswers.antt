-- The string at a place as an answer: what stands there, or none where no zero byte follows. Assumes nothing.
use Rattle.std.proofs.Common.{◌≡◌, ℕ, zero, suc, ◌+◌, ◌<◌, Bool, true, false, not, eqb, leb, List, [], ◌∷◌, ◌++◌, length, get_or, take, drop, Some, None, Option, sym, refl, ap, ◌∙◌, subst, ⊎_elim, arith}
use Rattle.std.specs.Option.{MatchOption, is_some, option_map}
use Rattle.std.proofs.lemmas.Bool.{false≢true, and_from, and_parts, cases_eq, eq-eqb, le-leb, ne_eqb, cond-true, cond-false}
use Rattle.std.proofs.lemmas.Slice.Eq.{bytes_eq-Decides}
use Rattle.std.proofs.lemmas.List.{get_or-drop, get_or-take, length-drop}
use Rattle.byte_parts.specs.Places.{First, Free}
use Rattle.byte_parts.specs.Spans.{stands}
use Rattle.byte_parts.specs.Fields.{StringAt, before_zero, string_in}
use Rattle.byte_parts.proofs.Strings.{string_fits, string_here, string_part, string_stop}

-- the list is s, a zero byte and more
abbrev Ends : List ℕ → List ℕ → Type 0
Ends xs s = (rest : List ℕ) × (xs ≡ s ++ (0 ∷ rest)) × Free 0 s

free_more : (x : ℕ) (s : List ℕ) → (x ≡ 0 → ⊥) → Free 0 s → Free 0 (x ∷ s)
free_more x s n f zero l e = n e
free_more x s n f (suc k) l e = f k (omega arith) e

found : (s rest : List ℕ) → Free 0 s → before_zero (s ++ (0 ∷ rest)) ≡ Some s
found [] rest f = refl
found (x ∷ s) rest f =
    cond-false (eqb x 0) (Some []) _ (ne_eqb x 0 (f 0 (omega arith)))
    ∙ ap (option_map (λ t. x ∷ t)) (found s rest (λ k l e. f (suc k) (omega arith) e))

-- where something stands before the first zero byte, that byte follows it
answer : (xs s : List ℕ) → before_zero xs ≡ Some s → Ends xs s
answer [] s e = let z : ◌≡◌ {A = ℕ} 0 1 = cc in absurd (omega arith)
answer (x ∷ xs) s e =
    ⊎_elim
    (λ here.
    let t = cond-true (eqb x 0) (Some []) (option_map (λ t. x ∷ t) (before_zero xs)) (eq-eqb x 0 here) in
    let none : s ≡ [] = cc in
    (xs, ap (λ y. y ∷ xs) here ∙ ap (λ l. l ++ (0 ∷ xs)) (sym none), rw none (λ k l q. omega arith)))
    (λ other. later other (before_zero xs) refl (answer xs))
    (cases_eq x 0)
  where
    later : (x ≡ 0 → ⊥) → (p : Option (List ℕ)) → before_zero xs ≡ p → ((t : List ℕ) → before_zero xs ≡ Some t → Ends xs t) → Ends (x ∷ xs) s
    later other None q more =
        let t = cond-false (eqb x 0) (Some []) (option_map (λ t. x ∷ t) (before_zero xs)) (ne_eqb x 0 other) in
        let u = ap (option_map (λ (t : List ℕ). x ∷ t)) q in
        let z : ◌≡◌ {A = ℕ} 0 1 = cc in
        absurd (omega arith)
    later other (Some t) q more =
        let v = cond-false (eqb x 0) (Some []) (option_map (λ t. x ∷ t) (before_zero xs)) (ne_eqb x 0 other) in
        let u = ap (option_map (λ (t : List ℕ). x ∷ t)) q in
        let same : s ≡ x ∷ t = cc in
        let there = more t q in
        (there.0, ap (λ l. x ∷ l) there.1 ∙ ap (λ l. l ++ (0 ∷ there.0)) (sym same), rw same (free_more x t other there.2))

pub string_in_is : {xs : List ℕ} {place : ℕ} {s : List ℕ} → StringAt xs place s → string_in xs place ≡ Some s
string_in_is {xs} {place} {s} h = ap before_zero h.shape ∙ found s h.rest h.free

pub string_in_reads : (xs : List ℕ) (place : ℕ) (s : List ℕ) → string_in xs place ≡ Some s → StringAt xs place s
string_in_reads xs place s e =
    let there = answer (drop place xs) s e in
    record { rest = there.0; shape = there.1; free = there.2 }

pub string_in_none : (xs : List ℕ) (place : ℕ) → ((s : List ℕ) → StringAt xs place s → ⊥) → string_in xs place ≡ None
string_in_none xs place none = cases (string_in xs place) refl
  where
    cases : (o : Option (List ℕ)) → string_in xs place ≡ o → string_in xs place ≡ None
    cases None e = e
    cases (Some s) e = absurd (none s (string_in_reads xs place s e))

-- a string that is compared with a text: the byte after it, then the text itself, which has no zero byte
module _ (xs text : List ℕ) (place : ℕ) where
  pub is_fits : string_in xs place ≡ Some text → place + length text < length xs
  is_fits e = string_fits (string_in_reads xs place text e)

  pub is_ended : string_in xs place ≡ Some text → get_or xs (place + length text) 0 ≡ 0
  is_ended e = string_stop (string_in_reads xs place text e)

  pub is_there : string_in xs place ≡ Some text → stands xs place text ≡ true
  is_there e =
      let h = string_in_reads xs place text e in
      let fits = string_fits h in
      and_from _ _ (le-leb (place + length text) (length xs) (omega arith)) ((bytes_eq-Decides _ _).1 (sym (string_part h).bytes))

  pub is_free : string_in xs place ≡ Some text → (i : ℕ) → First 0 text i → ⊥
  is_free e i f = (string_in_reads xs place text e).free i f.within f.here

  pub is_found : place + length text < length xs → get_or xs (place + length text) 0 ≡ 0 → stands xs place text ≡ true → Free 0 text → string_in xs place ≡ Some text
  is_found fits ended there free =
      let same : take (length text) (drop place xs) ≡ text =
      (bytes_eq-Decides (take (length text) (drop place xs)) text).0 (and_parts (leb (place + length text) (length xs)) _ there).1
      in
      let left = length-drop place xs in
      let first : First 0 (drop place xs) (length text) =
      record {
        within = omega arith;
        here = get_or-drop place xs (length text) 0 ∙ ended;
        before = λ k l e. free k l (sym (ap (λ t. get_or t k 0) same) ∙ get_or-take (length text) (drop place xs) k 0 l ∙ e);
      }
      in
      string_in_is (subst (StringAt xs place) same (string_here xs place (length text) first))

  -- the text is the string exactly where it has no zero byte of its own
  pub is_none_answers : (zero : Option ℕ) (r : Bool) → is_some zero ≡ not r → MatchOption zero (Free 0 text) (First 0 text) → place + length text < length xs → get_or xs (place + length text) 0 ≡ 0 → stands xs place text ≡ true → (r ≡ true → string_in xs place ≡ Some text) × (string_in xs place ≡ Some text → r ≡ true)
  is_none_answers None true e free fits ended there = (λ _. is_found fits ended there free, λ _. refl)
  is_none_answers None false e free fits ended there = absurd (false≢true e)
  is_none_answers (Some i) true e first fits ended there = absurd (false≢true (sym e))
  is_none_answers (Some i) false e first fits ended there = (λ n. absurd (false≢true n), λ n. absurd (is_free n i first))
