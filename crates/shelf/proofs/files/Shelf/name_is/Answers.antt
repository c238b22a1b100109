use Rattle.std.proofs.Common.{refl, arith}
use Rattle.shelf.proofs.Names.{name_read}
use Rattle.shelf.proofs.files.Shelf.name_is.Goals as goal

pub returns : goal.returns
returns g c =
    record { value = (λ _. name_read _ _ _ c.name_len.ensures.value c.if-ne.ensures (λ k l. c.loop-at.invariant k (omega arith)), λ _. refl) }
