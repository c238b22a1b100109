use Rattle.std.proofs.lemmas.Option.{MatchOption-at_some}
use Rattle.ld_so_cache.proofs.Entries.{entry_of}
use Rattle.ld_so_cache.proofs.cache.check_entry.Goals as goal

pub returns : goal.returns
returns c =
    let read = MatchOption-at_some _ _ c.in_ok-fields.fields c.in_ok-fields.ensures.ok_part c.read_fields.ensures.cases in
    let key = c.requires.before _ c.if-fields-end.false in
    let value = c.requires.before _ c.if-fields-end-2.false in
    record { cases = (key.0, value.0, entry_of read key.1 value.1) }
