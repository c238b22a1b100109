use native.Mathlib.Nat.{sub-zero}
use Rattle.std.proofs.lemmas.List.{take_rest}
use Rattle.byte_parts.proofs.FirstWords.{word_found, no_word}
use Rattle.byte_parts.proofs.words.next_word.Goals as goal

pub returns-then-len-eq0 : goal.returns-then-len-eq0
returns-then-len-eq0 c =
    let text = c.args.text.now in
    record {
      cases = no_word text _ _ _ c.leading_white-start.ensures.value (take_rest text c.leading_white-start.result) c.word_len-len.ensures.value c.if-len-eq0.true;
    }

pub returns : goal.returns
returns c =
    let text = c.args.text.now in
    let n = c.word_len-len.result in
    record {
      cases = word_found text _ n _ _ _ c.leading_white-start.ensures.value (take_rest text c.leading_white-start.result) c.word_len-len.ensures.value c.if-len-eq0.false (rw sub-zero) (take_rest _ n);
    }
