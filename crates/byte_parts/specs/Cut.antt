-- Cutting a list at each place of a byte, and putting the pieces together again. Assumes nothing.
use Rattle.std.specs.Prelude.{ℕ, cond, List, [], ◌∷◌, ◌++◌, ◌==◌}

-- the byte c in front of the first piece
abbrev pub in_front : ℕ → List (List ℕ) → List (List ℕ)
in_front c [] = (c ∷ []) ∷ []
in_front c (p ∷ ps) = (c ∷ p) ∷ ps

-- the pieces between the places of b: one more than there are places
unfoldable pub cut : ℕ → List ℕ → List (List ℕ)
cut b [] = [] ∷ []
cut b (c ∷ cs) = cond (c == b) ([] ∷ cut b cs) (in_front c (cut b cs))

-- the pieces one after another, with b between them
abbrev pub glued : ℕ → List (List ℕ) → List ℕ
glued b [] = []
glued b (p ∷ []) = p
glued b (p ∷ q ∷ ps) = p ++ (b ∷ glued b (q ∷ ps))
