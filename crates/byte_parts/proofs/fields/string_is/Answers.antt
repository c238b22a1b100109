use Rattle.std.proofs.Common.{sym, arith}
use Rattle.std.proofs.lemmas.Bool.{both_ways, false≢true}
use Rattle.byte_parts.proofs.StringAnswers.{is_fits, is_ended, is_there, is_none_answers}
use Rattle.byte_parts.proofs.fields.string_is.Goals as goal

pub returns-then-len-bytes : goal.returns-then-len-bytes
returns-then-len-bytes c =
    record {
      value = (
        λ e. absurd (false≢true e),
        λ e. let fits = is_fits c.args.bytes.now c.args.text.now c.args.place e in absurd (omega arith),
      );
    }

pub returns-then-bytes-place-ne0 : goal.returns-then-bytes-place-ne0
returns-then-bytes-place-ne0 c =
    record { value = (λ e. absurd (false≢true e), λ e. absurd (c.if-bytes-place-ne0.true (is_ended c.args.bytes.now c.args.text.now c.args.place e))) }

pub returns-then-not-stands_at : goal.returns-then-not-stands_at
returns-then-not-stands_at c =
    record {
      value = (
        λ e. absurd (false≢true e),
        λ e. absurd (both_ways _ (sym c.if-not-stands_at.ensures.value) (is_there c.args.bytes.now c.args.text.now c.args.place e)),
      );
    }

pub returns : goal.returns
returns c =
    record { value = is_none_answers c.args.bytes.now c.args.text.now c.args.place _ _ c.is_none.ensures c.find_byte.ensures.cases (omega arith) c.if-bytes-place-ne0.false (sym c.if-not-stands_at.ensures.value) }
