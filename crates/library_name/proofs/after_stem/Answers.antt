use Rattle.std.proofs.lemmas.Slice.Eq.{strip_prefix_is}
use Rattle.library_name.proofs.Stems.{after_stem_of}
use Rattle.library_name.proofs.after_stem.Goals as goal
use Rattle.std.proofs.lemmas.Bool.Decides.{Decides-eqb}

pub returns : goal.returns
returns c =
    record { cases = after_stem_of _ _ _ c.stem.ensures.value _ (strip_prefix_is Decides-eqb _ _ _ c.strip_prefix.ensures.cases) }
