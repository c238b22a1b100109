use Rattle.std.proofs.Common.{◌≤◌, sym, ap, ◌∙◌, subst}
use Rattle.byte_parts.specs.Fields.{string_in, strings_end}
use Rattle.byte_parts.proofs.StringAnswers.{string_in_none}
use Rattle.byte_parts.proofs.StringEnds.{no_string_past}
use Rattle.image_shelf.proofs.entry.Entry.name.Goals as goal

pub returns-then-place-self : goal.returns-then-place-self
returns-then-place-self c =
    let strings = c.args.self.strings.now in
    let past : strings_end strings ≤ c.field_at-place.result = subst (λ n. n ≤ c.field_at-place.result) c.args.self.ends c.if-place-self.true in
    record { value = sym (string_in_none strings c.field_at-place.result (no_string_past strings c.field_at-place.result past)) ∙ ap (string_in strings) c.field_at-place.ensures.value }
