use Rattle.std.proofs.Common.{take, sym, ap, ◌∙◌, arith, rules}
use Rattle.unix_path.specs.Paths.{pieces}
use Rattle.unix_path.proofs.Ends.{piece_first, piece_behind, piece_skipped}
use Rattle.unix_path.proofs.Readings.{pieces_nil}
use Rattle.unix_path.proofs.piece.last_piece.Goals as goal

pub returns-then-is_kept : goal.returns-then-is_kept
returns-then-is_kept c =
    let inv = c.loop-slash.invariant in
    record { cases = piece_behind _ _ inv.0 inv.1 _ c.in-Some.ensures.cases (sym c.if-is_kept.ensures.value) }

pub loop-slash-preserved : goal.loop-slash-preserved
loop-slash-preserved c =
    let inv = c.loop-slash.invariant in
    let at = c.in-Some.ensures.cases in
    (search rules, piece_skipped _ _ inv.0 inv.1 _ at (sym c.if-is_kept.ensures.value))

pub returns-then-end-eq0 : goal.returns-then-end-eq0
returns-then-end-eq0 c =
    record { cases = sym c.loop-slash.invariant.1 ∙ ap (λ n. pieces (take n c.args.path.now)) c.if-end-eq0.true ∙ pieces_nil }

pub returns : goal.returns
returns c =
    let inv = c.loop-slash.invariant in
    record { cases = piece_first _ _ inv.0 inv.1 (omega arith) c.in_default.ensures.cases }
