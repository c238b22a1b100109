-- A target has one answer. Assumes nothing.
use Rattle.std.proofs.Common.{◌≡◌, ℕ, Bool, true, false, List, Some, None, Option, sym, ap, ◌∙◌, inl, inr, arith}
use Rattle.ld_so_cache.specs.Cache.{value_place}
use Rattle.ld_so_cache.specs.Faults.{cache_refusal}
use Rattle.ld_so_cache.proofs.Once.{refused_good, one_fault, one_entry, one_value, found_none}
use Rattle.proc_map.specs.Maps.{map_lines}
use Rattle.proc_map.specs.Search.{Found}
use Rattle.proc_map.proofs.Finding.{looks_up_once}
use Rattle.attach_target.specs.Targets.{Answer, in_maps, in_cache, turned_away, CacheSays, Listed, MapsSay, ResolvesOnce, Searches, Tells}

listed_once : (target cache : List ℕ) (a b : Answer) → Listed target cache a → Listed target cache b → a ≡ b
listed_once target cache a b (inl h) (inl k) =
    h.3 ∙ (λ i. in_cache (value_place cache (one_entry h.2 k.2 i)) (one_value h.2 k.2 i)) ∙ sym k.3
listed_once target cache a b (inl h) (inr k) = absurd (found_none h.2 k.0)
listed_once target cache a b (inr h) (inl k) = absurd (found_none k.2 h.0)
listed_once target cache a b (inr h) (inr k) = h.1 ∙ sym k.1

cache_once : (target : List ℕ) (cache : Option (List ℕ)) (a b : Answer) → CacheSays target cache a → CacheSays target cache b → a ≡ b
cache_once target None a b h k = h ∙ sym k
cache_once target (Some cache) a b (inl h) (inl k) =
    h.2 ∙ ap (λ f. turned_away (cache_refusal f)) (one_fault cache h.0 k.0 h.1 k.1) ∙ sym k.2
cache_once target (Some cache) a b (inl h) (inr k) = absurd (refused_good cache h.0 h.1 k.0)
cache_once target (Some cache) a b (inr h) (inl k) = absurd (refused_good cache k.0 k.1 h.0)
cache_once target (Some cache) a b (inr h) (inr k) = listed_once target cache a b h.1 k.1

tells_once : (target : List ℕ) (maps : Option (List ℕ)) (f g : Found) → Tells target maps f → Tells target maps g → f ≡ g
tells_once target None f g h k = h ∙ sym k
tells_once target (Some maps) f g h k = looks_up_once target (map_lines maps) f g h k

-- what the maps tell decides between the three
maps_once : (target : List ℕ) (maps cache : Option (List ℕ)) (a b : Answer) → MapsSay target maps cache a → MapsSay target maps cache b → a ≡ b
maps_once target maps cache a b (inl h) (inl k) =
    let same = tells_once target maps _ _ h.2 k.2 in
    let place : h.0 ≡ k.0 = cc in
    let path : h.1 ≡ k.1 = cc in
    h.3 ∙ (λ i. in_maps (place i) (path i)) ∙ sym k.3
maps_once target maps cache a b (inl h) (inr (inl k)) =
    let same = tells_once target maps _ _ h.2 k.1 in
    absurd (let z : ◌≡◌ {A = ℕ} 0 1 = cc in omega arith)
maps_once target maps cache a b (inl h) (inr (inr k)) =
    let same = tells_once target maps _ _ h.2 k.0 in
    absurd (let z : ◌≡◌ {A = ℕ} 0 1 = cc in omega arith)
maps_once target maps cache a b (inr (inl h)) (inl k) =
    let same = tells_once target maps _ _ h.1 k.2 in
    absurd (let z : ◌≡◌ {A = ℕ} 0 1 = cc in omega arith)
maps_once target maps cache a b (inr (inl h)) (inr (inl k)) =
    let same = tells_once target maps _ _ h.1 k.1 in
    let refusal : h.0 ≡ k.0 = cc in
    h.2 ∙ ap turned_away refusal ∙ sym k.2
maps_once target maps cache a b (inr (inl h)) (inr (inr k)) =
    let same = tells_once target maps _ _ h.1 k.0 in
    absurd (let z : ◌≡◌ {A = ℕ} 0 1 = cc in omega arith)
maps_once target maps cache a b (inr (inr h)) (inl k) =
    let same = tells_once target maps _ _ h.0 k.2 in
    absurd (let z : ◌≡◌ {A = ℕ} 0 1 = cc in omega arith)
maps_once target maps cache a b (inr (inr h)) (inr (inl k)) =
    let same = tells_once target maps _ _ h.0 k.1 in
    absurd (let z : ◌≡◌ {A = ℕ} 0 1 = cc in omega arith)
maps_once target maps cache a b (inr (inr h)) (inr (inr k)) = cache_once target cache a b h.1 k.1

searches_once : (target : List ℕ) (uses : Bool) (maps cache : Option (List ℕ)) (a b : Answer) → Searches target uses maps cache a → Searches target uses maps cache b → a ≡ b
searches_once target true maps cache a b h k = maps_once target maps cache a b h k
searches_once target false maps cache a b h k = cache_once target cache a b h k

pub resolves_once : ResolvesOnce
resolves_once target uses maps cache a b (inl h) (inl k) = h.1 ∙ sym k.1
resolves_once target uses maps cache a b (inl h) (inr k) = absurd (h.0 k.0)
resolves_once target uses maps cache a b (inr h) (inl k) = absurd (k.0 h.0)
resolves_once target uses maps cache a b (inr h) (inr k) = searches_once target uses maps cache a b h.1 k.1
