use Rattle.std.proofs.Common.{arith}
use Rattle.byte_parts.specs.Words.{white}
use Rattle.byte_parts.proofs.Runs.{ending_is}
use Rattle.byte_parts.proofs.words.ending_white.Goals as goal

pub returns : goal.returns
returns c =
    let cut = c.trim_ascii_end.ensures.value in
    let run = ending_is white c.args.text.now cut.0 0 cut.3 cut.4 cut.5 in
    record { value = omega arith; bound = omega arith }
