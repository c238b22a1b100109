use Rattle.std.proofs.Common.{◌≡◌, ℕ, false, List, Some, None, Bool, Bor, Decides, MatchOption, Option, rules, sym, ◌∙◌, subst}
use Rattle.std.proofs.lemmas.Bool.{false≢true}
use Rattle.std.proofs.lemmas.Bool.Decides.{Decides-eqb}
use Rattle.std.proofs.lemmas.Slice.Eq.{slice_eq-Decides}
use Rattle.unix_path.specs.Paths.{FileName}
use Rattle.unix_path.proofs.Names.{one_file_name}
use Rattle.attach_target.specs.Targets.{Bare}
use Rattle.attach_target.proofs.target.is_basename_only.Goals as goal

bare_by_name : (target : List ℕ) (o : Option (Bor (List ℕ))) (b : Bool) {Q : Bor (List ℕ) → Type 0} → MatchOption o ((name : List ℕ) → FileName target name → ⊥) (λ name. FileName target name.now) → MatchOption o (b ≡ false) Q → ((x : Bor (List ℕ)) → Q x → Decides b (x.now ≡ target)) → Decides b (Bare target)
bare_by_name target (Some x) b named q same =
    (λ t. subst (FileName target) ((same x q).0 t) named, λ bare. (same x q).1 (one_file_name named bare))
bare_by_name target None b none q same = (λ t. absurd (false≢true (sym q ∙ t)), λ bare. absurd (none target bare))

pub returns : goal.returns
returns c =
    bare_by_name c.args.target.now c.file_name.result c.is_some_and.result c.file_name.ensures.cases c.is_some_and.ensures (λ x q. slice_eq-Decides Decides-eqb _ _ _ (search rules))
