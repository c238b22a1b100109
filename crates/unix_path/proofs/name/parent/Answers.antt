use Rattle.std.proofs.Common.{take, sym, ap, ◌∙◌, subst}
use mir.Val.{bool_byte}
use Rattle.unix_path.specs.Paths.{Parent}
use Rattle.unix_path.proofs.Parents.{parent_before, parent_root, reopened}
use Rattle.unix_path.proofs.name.parent.Goals as goal
use Rattle.unix_path.proofs.name.parent.Goals.{in-Some, in-None}

pub returns : goal.returns
returns c =
    let path = c.args.path.now in
    let len = c.match-last_piece.len in
    let last = c.in_ok-start.ensures.cases in
    let found : Parent path (take len path) =
    elim c.match-last_piece.branch [
      | in-Some w ↦
          subst (λ n. Parent path (take n path)) (sym w.len-is) (parent_before last w.in-Some.ensures.cases)
      | in-None w ↦
          parent_root last len (w.len-is ∙ w.from-len.ensures ∙ ap bool_byte w.is_rooted.ensures.value) w.in-None.ensures.cases
    ] in
    record { cases = found; reopens = λ name h. reopened found h }
