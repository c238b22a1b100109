use Rattle.std.proofs.Common.{ℕ, ◌<◌, List}
use Rattle.library_name.specs.Names.{NamesKey}
use Rattle.ld_so_cache.specs.Cache.{Entry}
use Rattle.ld_so_cache.proofs.cache.LdSoCache.resolve.Given as goal

abbrev pub invariant-loop-number : goal.invariant-loop-number
invariant-loop-number l = (m : ℕ) → 0 < m → m < l.number → (k v : List ℕ) → Entry l.self.bytes.now m k v → NamesKey l.target k → ⊥
