use Rattle.std.proofs.Common.{◌≡◌, ap, subst}
use Rattle.std.specs.Option.{option_map}
use Rattle.unix_path.specs.Paths.{FileName}
use Rattle.proc_map.proofs.find.named_path.Goals as goal

pub returns-in_err-file : goal.returns-in_err-file
returns-in_err-file c =
    rw c.from_residual-in_err-file.ensures
    (record {
      cases = λ p n.
          let told = ap (option_map (λ x. x.now)) c.in_ok-path.was in
          let has = n.has in
          let same : p ≡ c.in_ok-path.path.now = cc in
          c.in_err-file.ensures.cases n.file (subst (λ l. FileName l n.file) same n.last);
    })
