-- What a checked cache says of a target. Assumes nothing.
use Rattle.std.proofs.Common.{◌≡◌, ℕ, List, [], Some, None, Option, MatchOption, IfOk, sym, refl, ap, ◌∙◌, subst, inl, inr}
use Rattle.byte_parts.specs.Parts.{PartOf}
use Rattle.std.specs.Option.{ok_or}
use Rattle.byte_parts.specs.Refusals.{refuse}
use Rattle.byte_parts.specs.declared.part.Part.{Part}
use Rattle.byte_parts.proofs.Strings.{string_part}
use Rattle.ld_so_cache.specs.Cache.{count, value_place, Good, Finds, FindsNone}
use Rattle.attach_target.specs.Targets.{cache_found, in_cache, turned_away, CacheSays}
use Rattle.attach_target.specs.declared.fault.TargetFault.TheVariants.{InvalidTarget}

-- the cache that was checked is the one that is searched, with as many entries as it counts
module _ {cache bytes : List ℕ} {total : ℕ} (good : Good cache) (same : bytes ≡ cache) (all : total ≡ count cache) where
  module _ {target value : List ℕ} {n place : ℕ} (h : Finds bytes total target n value) (at : place ≡ value_place bytes n) where
    placed : place ≡ value_place cache n
    placed = at ∙ ap (λ l. value_place l n) same

    in_checked : Finds cache (count cache) target n value
    in_checked = subst (λ t. Finds cache t target n value) all (subst (λ l. Finds l total target n value) same h)

    cache_hit : CacheSays target (Some cache) (in_cache place value)
    cache_hit = inr (good, inl (n, value, in_checked, ap (λ p. in_cache p value) placed))

    cache_part : PartOf cache place value
    cache_part = subst (λ p. PartOf cache p value) (sym placed) (string_part in_checked.entry.value_here)

  cache_miss : (target : List ℕ) → FindsNone bytes total target → CacheSays target (Some cache) (turned_away (refuse 9 []))
  cache_miss target none =
      inr (good, inr (subst (λ t. FindsNone cache t target) all (subst (λ l. FindsNone l total target) same none), refl))

  -- what the search answers
  pub cache_says : (target : List ℕ) (o : Option Part) → MatchOption o (FindsNone bytes total target) (λ p. (n : ℕ) × Finds bytes total target n p.bytes.now × (p.place ≡ value_place bytes n)) → CacheSays target (Some cache) (cache_found (ok_or o InvalidTarget)) × IfOk (ok_or o InvalidTarget) (λ p. PartOf cache p.place p.bytes.now)
  cache_says target (Some p) h = (cache_hit h.1 h.2, cache_part h.1 h.2)
  cache_says target None none = (cache_miss target none, tt)
