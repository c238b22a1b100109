-- A name that is read by its length and its bytes, against one that is given whole. Assumes nothing.
use Rattle.std.proofs.Common.{◌≡◌, ℕ, ◌<◌, true, false, not, eqb, List, length, get_or, Some, None, Option, sym, ap, ◌∙◌, arith}
use Rattle.std.specs.Option.{option_eq, option_map}
use Rattle.std.specs.List.{slice_get}
use Rattle.std.proofs.lemmas.Bool.{eqb-true, false≢true, not-false}
use Rattle.std.proofs.lemmas.List.{ext_get_or}
use Rattle.std.proofs.lemmas.Option.{slice_get-get_or}
use Rattle.shelf.specs.Questions.{ask}

same_bytes : (s name : List ℕ) → length s ≡ length name → ((k : ℕ) → k < length name → slice_get s k ≡ Some (get_or name k 0)) → s ≡ name
same_bytes s name long all =
    ext_get_or 0 s name long (λ k l. let there = slice_get-get_or s k 0 l in let here = all k (omega arith) in cc)

-- two lengths that are found equal
same_length : (o : Option ℕ) (n : ℕ) → option_eq eqb o (Some n) ≡ true → o ≡ Some n
same_length None n e = absurd (false≢true e)
same_length (Some m) n e = ap Some (eqb-true m n e)

-- a name of the right length with the right bytes is the name
pub name_read : (o : Option (List ℕ)) (name : List ℕ) (long : Option ℕ) → long ≡ option_map length o → false ≡ not (option_eq eqb long (Some (length name))) → ((k : ℕ) → k < length name → ask o (λ s. slice_get s k) ≡ Some (get_or name k 0)) → o ≡ Some name
name_read o name long h e all = read o (sym h ∙ same_length long (length name) (not-false _ (sym e))) all
  where
    read : (p : Option (List ℕ)) → option_map length p ≡ Some (length name) → ((k : ℕ) → k < length name → ask p (λ s. slice_get s k) ≡ Some (get_or name k 0)) → p ≡ Some name
    read None e all = let z : ◌≡◌ {A = ℕ} 0 1 = cc in absurd (omega arith)
    read (Some s) e all =
        let same : length s ≡ length name = cc in
        ap Some (same_bytes s name same all)
