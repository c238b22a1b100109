use Rattle.std.proofs.Common.{arith}
use Rattle.byte_parts.specs.Words.{white}
use Rattle.std.proofs.lemmas.List.Sums.{prefix_len_is}
use Rattle.byte_parts.proofs.words.leading_white.Goals as goal

pub returns : goal.returns
returns c =
    let cut = c.trim_ascii_start.ensures.value in
    let run = prefix_len_is white c.args.text.now cut.0 0 (omega arith) cut.3 cut.4 in
    record { value = omega arith; bound = omega arith }
