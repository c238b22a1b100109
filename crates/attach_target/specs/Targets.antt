-- Which file a target stands for. Assumes nothing.
use Rattle.std.specs.Prelude.{◌≡◌, ℕ, Bool, true, false, ◌⊎◌, List, [], Some, None, Ok, Err, Option, Result}
use Rattle.byte_parts.specs.Parts.{PartOf}
use Rattle.byte_parts.specs.Refusals.{Refusal, refuse}
use Rattle.byte_parts.specs.declared.part.Part.{Part}
use Rattle.ld_so_cache.specs.declared.fault.CacheFault.{CacheFault}
use Rattle.ld_so_cache.specs.Cache.{count, value_place, Good, Finds, FindsNone}
use Rattle.ld_so_cache.specs.Faults.{Refuses, cache_refusal}
use Rattle.proc_map.specs.Maps.{map_lines}
use Rattle.proc_map.specs.Search.{Found, path_at, nowhere, refused, LooksUp}
use Rattle.unix_path.specs.Paths.{FileName}
use Rattle.attach_target.specs.declared.fault.TargetFault.{TargetFault}
use Rattle.attach_target.specs.declared.target.Target.{Target}
use Rattle.attach_target.specs.declared.target.Target.TheVariants.{Given, Mapped, Cached}
use Rattle.attach_target.specs.Faults.{target_refusal}

-- what a look-up answers: a path with its place in the target, the maps or the cache, or a refusal
pub data Answer : Type 0 where
  as_given : ℕ → List ℕ → Answer
  in_maps : ℕ → List ℕ → Answer
  in_cache : ℕ → List ℕ → Answer
  turned_away : Refusal → Answer

-- the answer of the program as its reader sees it
abbrev pub answer : Result Target TargetFault → Answer
answer (Ok (Given p)) = as_given p.place p.bytes.now
answer (Ok (Mapped p)) = in_maps p.place p.bytes.now
answer (Ok (Cached p)) = in_cache p.place p.bytes.now
answer (Err f) = turned_away (target_refusal f)

-- a bare name is its own file name
abbrev pub Bare : List ℕ → Type 0
Bare target = FileName target target

-- what a readable cache says of the target
abbrev pub Listed : List ℕ → List ℕ → Answer → Type 0
Listed target cache a =
    ((n : ℕ) × (value : List ℕ) × Finds cache (count cache) target n value × (a ≡ in_cache (value_place cache n) value))
    ⊎ (FindsNone cache (count cache) target × (a ≡ turned_away (refuse 9 [])))

-- what the cache says of the target: 8 where it cannot be read, its own refusal where it is damaged
abbrev pub CacheSays : List ℕ → Option (List ℕ) → Answer → Type 0
CacheSays target None a = a ≡ turned_away (refuse 8 [])
CacheSays target (Some cache) a =
    ((f : CacheFault) × Refuses cache f × (a ≡ turned_away (cache_refusal f))) ⊎ (Good cache × Listed target cache a)

-- what the maps say of the target: 7 where they cannot be read
abbrev pub Tells : List ℕ → Option (List ℕ) → Found → Type 0
Tells target None f = f ≡ refused (refuse 7 [])
Tells target (Some maps) f = LooksUp target (map_lines maps) f

-- what the maps, and behind them the cache, say of the target
abbrev pub MapsSay : List ℕ → Option (List ℕ) → Option (List ℕ) → Answer → Type 0
MapsSay target maps cache a =
    ((place : ℕ) × (path : List ℕ) × Tells target maps (path_at place path) × (a ≡ in_maps place path))
    ⊎ (((r : Refusal) × Tells target maps (refused r) × (a ≡ turned_away r))
    ⊎ (Tells target maps nowhere × CacheSays target cache a))

-- for a bare name, the maps where the scope has them, else the cache
abbrev pub Searches : List ℕ → Bool → Option (List ℕ) → Option (List ℕ) → Answer → Type 0
Searches target true maps cache a = MapsSay target maps cache a
Searches target false maps cache a = CacheSays target cache a

-- a target that is no bare name is its own path
abbrev pub Resolves : List ℕ → Bool → Option (List ℕ) → Option (List ℕ) → Answer → Type 0
Resolves target uses maps cache a =
    ((Bare target → ⊥) × (a ≡ as_given 0 target)) ⊎ (Bare target × Searches target uses maps cache a)

-- a target has one answer
abbrev pub ResolvesOnce : Type 0
ResolvesOnce =
    (target : List ℕ) (uses : Bool) (maps cache : Option (List ℕ)) (a b : Answer) → Resolves target uses maps cache a → Resolves target uses maps cache b → a ≡ b

-- the path stands at its place in the target, the maps or the cache
abbrev pub PartOfSome : Option (List ℕ) → ℕ → List ℕ → Type 0
PartOfSome None place bs = ⊥
PartOfSome (Some whole) place bs = PartOf whole place bs

abbrev pub Stands : List ℕ → Option (List ℕ) → Option (List ℕ) → Target → Type 0
Stands target maps cache (Given p) = PartOf target p.place p.bytes.now
Stands target maps cache (Mapped p) = PartOfSome maps p.place p.bytes.now
Stands target maps cache (Cached p) = PartOfSome cache p.place p.bytes.now

-- the answers of the two steps as their reader sees them
abbrev pub maps_found : Result (Option Part) TargetFault → Found
maps_found (Ok (Some p)) = path_at p.place p.bytes.now
maps_found (Ok None) = nowhere
maps_found (Err f) = refused (target_refusal f)

abbrev pub cache_found : Result Part TargetFault → Answer
cache_found (Ok p) = in_cache p.place p.bytes.now
cache_found (Err f) = turned_away (target_refusal f)
