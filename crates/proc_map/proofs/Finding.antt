-- The look-up of a library, line by line. Assumes nothing.
use Rattle.std.proofs.Common.{◌≡◌, ℕ, ◌+◌, ◌⊎◌, List, [], ◌∷◌, ◌++◌, length, Some, None, Option, sym, ap, ◌∙◌, subst, inl, inr, arith}
use Rattle.std.proofs.lemmas.List.{length-append}
use Rattle.std.specs.List.{AllByRecursion}
use Rattle.byte_parts.specs.Parts.{PartOf}
use Rattle.byte_parts.proofs.Parted.{part_between, part_end, part_of_part}
use Rattle.proc_map.specs.Line.{Mapping, PathIn, Ends, Reads}
use Rattle.proc_map.specs.Maps.{Line}
use Rattle.proc_map.specs.Search.{Found, path_at, NamesPath, LooksUp, LooksUpOnce}
use Rattle.proc_map.proofs.Reading.{rest_ends, reads_once}

path_in_rest : {rest : List ℕ} {gap : ℕ} {path : List ℕ} → PathIn rest gap path → PartOf rest gap path
path_in_rest {rest} {gap} {path} h =
    subst (λ n. PartOf rest n path) h.gapped (subst (λ l. PartOf l (length h.before) path) (sym h.shape) (part_between h.before path h.after))

ends_part : (line rest front : List ℕ) (o : Option (List ℕ)) (place : ℕ) (path : List ℕ) → line ≡ front ++ rest → Ends line rest o place → o ≡ Some path → PartOf line place path
ends_part line rest front None place path e h has = absurd (let z : ◌≡◌ {A = ℕ} 0 1 = cc in omega arith)
ends_part line rest front (Some p) place path e h has =
    let same : p ≡ path = cc in
    let long = ap length e ∙ length-append front rest in
    let at = h.2 in
    let there : length front + h.0 ≡ place = omega arith in
    let whole : PartOf line (length front) rest = subst (λ l. PartOf l (length front) rest) (sym e) (part_end front rest) in
    subst (PartOf line place) same (subst (λ n. PartOf line n p) there (part_of_part whole (path_in_rest h.1)))

-- a path stands in its line
pub path_in_line : {line : List ℕ} {m : Mapping} {path : List ℕ} → Reads line m → m.path ≡ Some path → PartOf line m.path_place path
path_in_line {line} {m} {path} h has =
    let e = rest_ends h.words in
    ends_part line h.rest e.0 m.path m.path_place path e.1 h.ends has

-- the path of the first of some lines that stand in the maps stands in the maps
pub path_stands : (maps : List ℕ) {all : List Line} {l : Line} {ls : List Line} {m : Mapping} {path : List ℕ} → AllByRecursion (λ x. PartOf maps x.place x.bytes) all → all ≡ l ∷ ls → Reads l.bytes m → m.path ≡ Some path → PartOf maps (l.place + m.path_place) path
path_stands maps parts first reads has =
    let lines = subst (AllByRecursion (λ x. PartOf maps x.place x.bytes)) first parts in
    part_of_part lines.0 (path_in_line reads has)

-- what a line that says m leaves for the answer
abbrev Answers : List ℕ → Line → List Line → Mapping → Found → Type 0
Answers target l ls m a =
    ((path : List ℕ) × NamesPath target m path × (a ≡ path_at (l.place + m.path_place) path))
    ⊎ (((path : List ℕ) → NamesPath target m path → ⊥) × LooksUp target ls a)

-- a line that does not leaves the answer to those after it
pub passed : {target : List ℕ} {m : Mapping} (l : Line) (ls : List Line) (a : Found) → Reads l.bytes m → ((path : List ℕ) → NamesPath target m path → ⊥) → LooksUp target ls a → LooksUp target (l ∷ ls) a
passed {m} l ls a reads none h = inr (m, reads, inr (none, h))

one_path : {target : List ℕ} {m : Mapping} {path other : List ℕ} → NamesPath target m path → NamesPath target m other → path ≡ other
one_path h k = let p = h.has in let q = k.has in cc

one_answer : (target : List ℕ) (l : Line) (ls : List Line) (m : Mapping) (a b : Found) → (LooksUp target ls a → LooksUp target ls b → a ≡ b) → Answers target l ls m a → Answers target l ls m b → a ≡ b
one_answer target l ls m a b left (inl x) (inl y) =
    x.2 ∙ ap (path_at (l.place + m.path_place)) (one_path x.1 y.1) ∙ sym y.2
one_answer target l ls m a b left (inl x) (inr y) = absurd (y.0 x.0 x.1)
one_answer target l ls m a b left (inr x) (inl y) = absurd (x.0 y.0 y.1)
one_answer target l ls m a b left (inr x) (inr y) = left x.1 y.1

pub looks_up_once : LooksUpOnce
looks_up_once target [] a b h k = h ∙ sym k
looks_up_once target (l ∷ ls) a b (inl h) (inl k) = h.1 ∙ sym k.1
looks_up_once target (l ∷ ls) a b (inl h) (inr k) = absurd (h.0 k.0 k.1)
looks_up_once target (l ∷ ls) a b (inr h) (inl k) = absurd (k.0 h.0 h.1)
looks_up_once target (l ∷ ls) a b (inr h) (inr k) =
    let same : h.0 ≡ k.0 = reads_once l.bytes h.0 k.0 h.1 k.1 in
    one_answer target l ls k.0 a b (looks_up_once target ls a b) (subst (λ m. Answers target l ls m a) same h.2) k.2
