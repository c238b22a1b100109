use Rattle.std.proofs.Common.{ℕ, ◌<◌}
use Rattle.ld_so_cache.specs.Cache.{Whole}
use Rattle.ld_so_cache.proofs.cache.LdSoCache.parse.Given as goal

abbrev pub invariant-loop-number : goal.invariant-loop-number
invariant-loop-number l = (m : ℕ) → 0 < m → m < l.number → Whole l.bytes m
