use Rattle.std.proofs.Common.{refl}
use Rattle.std.proofs.lemmas.Bool.Decides.{Decides-eqb}
use Rattle.std.proofs.lemmas.Slice.Eq.{strip_suffix_is}
use Rattle.library_name.specs.Names.{dot_so}
use Rattle.library_name.proofs.Stems.{stem_of_front}
use Rattle.library_name.proofs.stem.Goals as goal

pub returns : goal.returns
returns c =
    let name = c.args.name in
    rw c.unwrap_or.ensures (record { value = stem_of_front name.now c.strip_suffix.result name refl (strip_suffix_is Decides-eqb name.now dot_so _ c.strip_suffix.ensures.cases) })
