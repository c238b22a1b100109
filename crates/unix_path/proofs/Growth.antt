-- A longer front of a path is read as no fewer pieces. Assumes nothing.
use Rattle.std.proofs.Common.{◌≡◌, ℕ, ◌≤◌, Bool, true, ◌⊎◌, List, [], ◌∷◌, ◌++◌, length, filter, sym, refl, ap, ◌∙◌, subst, inl, inr, ⊎_elim, arith}
use Rattle.std.specs.List.{All}
use Rattle.std.proofs.lemmas.List.{append_assoc, append-nil, length-append}
use Rattle.std.proofs.lemmas.List.Elements.{All-cons, All-nil, All-push}
use Rattle.std.proofs.lemmas.Bool.{cases_eq, cases_Bool, cond-true, cond-false}
use Rattle.byte_parts.specs.Places.{Free}
use Rattle.unix_path.specs.Paths.{slash, some, later, pieces}
use Rattle.unix_path.proofs.Readings.{Reading, reading_nil, reading_slash, pieces_slash}

abbrev Other : ℕ → Type 0
Other b = b ≡ slash → ⊥

-- a list, parted behind its last slash
record Parted (xs : List ℕ) : Type 0 where
  front : List ℕ
  rest : List ℕ
  shape : xs ≡ front ++ rest
  other : All Other rest
  opens : (front ≡ []) ⊎ ((u : List ℕ) × (front ≡ u ++ (slash ∷ [])))

parted : (xs : List ℕ) → Parted xs
parted [] = record { front = []; rest = []; shape = refl; other = All-nil Other; opens = inl refl }
parted (c ∷ cs) =
    let p = parted cs in
    ⊎_elim
    (λ none.
    let rest : cs ≡ p.rest = p.shape ∙ ap (λ l. l ++ p.rest) none in
    ⊎_elim
    (λ e. record { front = slash ∷ []; rest = p.rest; shape = ap (λ b. b ∷ cs) e ∙ ap (λ l. slash ∷ l) rest; other = p.other; opens = inr ([], refl) })
    (λ n. record { front = []; rest = c ∷ p.rest; shape = ap (λ l. c ∷ l) rest; other = All-cons Other c p.rest n p.other; opens = inl refl })
    (cases_eq c slash))
    (λ u. record { front = c ∷ p.front; rest = p.rest; shape = ap (λ l. c ∷ l) p.shape; other = p.other; opens = inr (c ∷ u.0, ap (λ l. c ∷ l) u.1) })
    p.opens

reading : (f : List ℕ) → (f ≡ []) ⊎ ((u : List ℕ) × (f ≡ u ++ (slash ∷ []))) → (test : List ℕ → Bool) × Reading test f
reading f o =
    ⊎_elim
    (λ e. (some, subst (Reading some) (sym e) reading_nil))
    (λ u. (later, subst (Reading later) (sym u.1) (reading_slash u.0)))
    o

kept_more : (test : List ℕ → Bool) (x y : List ℕ) → (test x ≡ true → test y ≡ true) → length (filter test (x ∷ [])) ≤ length (filter test (y ∷ []))
kept_more test x y g =
    ⊎_elim
    (λ t.
    let a = ap length (cond-true (test x) (x ∷ []) [] t) in
    let b = ap length (cond-true (test y) (y ∷ []) [] (g t)) in
    omega arith)
    (λ f. let a = ap length (cond-false (test x) (x ∷ []) [] f) in omega arith)
    (cases_Bool (test x))

free : (xs : List ℕ) → All Other xs → Free slash xs
free xs all k l = all k 0 l

pieces_push : (xs : List ℕ) (c : ℕ) → length (pieces xs) ≤ length (pieces (xs ++ (c ∷ [])))
pieces_push xs c =
    ⊎_elim
    (λ e. let same = ap (λ b. length (pieces (xs ++ (b ∷ [])))) e ∙ ap length (pieces_slash xs) in omega arith)
    (λ n.
    let p = parted xs in
    let r = reading p.front p.opens in
    let longer = p.rest ++ (c ∷ []) in
    let was = ap pieces p.shape ∙ r.1.reads p.rest (free p.rest p.other) in
    let is =
    ap pieces (ap (λ l. l ++ (c ∷ [])) p.shape ∙ append_assoc p.front p.rest (c ∷ []))
    ∙ r.1.reads longer (free longer (All-push Other p.rest c p.other n)) in
    let a = ap length was ∙ length-append (pieces p.front) (filter r.0 (p.rest ∷ [])) in
    let b = ap length is ∙ length-append (pieces p.front) (filter r.0 (longer ∷ [])) in
    let k = kept_more r.0 p.rest longer (r.1.grows p.rest (c ∷ [])) in
    omega arith)
    (cases_eq c slash)

pub pieces_grow : (xs ys : List ℕ) → length (pieces xs) ≤ length (pieces (xs ++ ys))
pieces_grow xs [] = let e = ap (λ l. length (pieces l)) (append-nil xs) in omega arith
pieces_grow xs (c ∷ cs) =
    let e = ap (λ l. length (pieces l)) (append_assoc xs (c ∷ []) cs) in
    let a = pieces_push xs c in
    let b = pieces_grow (xs ++ (c ∷ [])) cs in
    omega arith
