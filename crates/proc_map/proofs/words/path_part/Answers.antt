use Rattle.std.proofs.Common.{refl}
use Rattle.std.proofs.lemmas.List.{take_rest}
use Rattle.proc_map.proofs.Paths.{path_found, blank_found}
use Rattle.proc_map.proofs.words.path_part.Goals as goal

pub returns-then-len-eq0 : goal.returns-then-len-eq0
returns-then-len-eq0 c =
    let rest = c.args.rest.now in
    let gap = c.leading_white-place.result in
    record {
      cases = blank_found rest gap c.ending_white.result _ c.leading_white-place.ensures.value (take_rest rest gap) c.ending_white.ensures.value c.if-len-eq0.true;
    }

pub returns : goal.returns
returns c =
    let rest = c.args.rest.now in
    let gap = c.leading_white-place.result in
    record {
      cases = path_found rest gap c.ending_white.result _ c.leading_white-place.ensures.value (take_rest rest gap) c.ending_white.ensures.value _ c.if-len-eq0.false refl;
    }
