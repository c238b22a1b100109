use Rattle.std.proofs.Common.{◌≡◌, ◌+◌, not, ◌++◌, length, drop, sym, refl, ap, ◌∙◌, arith}
use mir.Val.{bool_byte}
use Rattle.unix_path.proofs.Joints.{joined_opens}
use Rattle.unix_path.proofs.Writes.{gap, joined_size, slash_written, slash_left, name_written}
use Rattle.unix_path.proofs.join.join.Goals as goal
use Rattle.unix_path.proofs.join.join.Goals.{then-out-start-via-then-out-start, then-out-start-via-else-out-start+then-out-start-2, then-front-start, else-front-start}

pub returns-then-out-start-clause-opens : goal.returns-then-out-start-clause-opens
returns-then-out-start-clause-opens c = joined_opens c.args.base.now c.args.name.now

pub returns : goal.returns
returns c =
    let base = c.args.base.now in
    let name = c.args.name.now in
    let out = c.args.out.now in
    let front = c.front_of-front.result.now in
    let k = c.from.result in
    let is_front = c.front_of-front.ensures.value in
    let gap_len = c.from.ensures ∙ ap (λ b. bool_byte (not b)) c.is_open_ended.ensures.value in
    let copied = c.copy_from_slice.ensures.after in
    let fits = c.if-out-start.false in
    let before_name : c.if-front-start.out ≡ (front ++ gap front) ++ drop (length front + k) out =
    elim c.if-front-start.branch [
      | then-front-start w ↦
          let wanted = w.if-front-start.true in
          w.out-is ∙ slash_written front k gap_len out _ copied (omega arith) wanted
      | else-front-start w ↦ w.out-is ∙ slash_left front k gap_len out _ copied w.if-front-start.false
    ] in
    record {
      cases = (sym (joined_size front k gap_len base name is_front), name_written front k gap_len base name out _ _ _ is_front refl before_name c.copy_from_slice-2.ensures.after);
      opens = joined_opens base name;
    }
