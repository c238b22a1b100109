use Rattle.std.proofs.Common.{◌≡◌, ℕ, ◌<◌, ◌≤◌, List, length, take, Some, None, Option, MatchOption, MatchResult, sym, refl, inl, inr}
use Rattle.std.specs.Option.{ok_or}
use Rattle.std.proofs.lemmas.Bool.Decides.{Decides-eqb}
use Rattle.std.proofs.lemmas.Slice.Eq.{slice_eq-Decides}
use Rattle.byte_parts.specs.Fields.{little_endian}
use Rattle.ld_so_cache.specs.Cache.{Header, count, magic}
use Rattle.ld_so_cache.specs.Faults.{Refuses}
use Rattle.ld_so_cache.specs.declared.fault.CacheFault.TheVariants.{Truncated}
use Rattle.ld_so_cache.proofs.cache.read_header.Goals as goal

counted : (bytes : List ℕ) (o : Option ℕ) → take 20 bytes ≡ magic → MatchOption o (length bytes < 24) (λ n. (24 ≤ length bytes) × (n ≡ little_endian 4 bytes 20)) → MatchResult (ok_or o (Truncated 0)) (λ n. Header bytes × (n ≡ count bytes)) (Refuses bytes)
counted bytes (Some n) starts h = (record { starts = starts; counted = h.0 }, h.1)
counted bytes None starts h = inl (refl, inr (starts, h))

pub returns : goal.returns
returns c =
    let same = slice_eq-Decides Decides-eqb _ _ _ c.starts_with.ensures.value in
    rw c.ok_or.ensures.value (record { cases = counted _ _ (sym (same.0 c.if-not-starts_with.false)) c.read_u32.ensures.cases })
