-- Which refusal each fault is. Assumes nothing.
use Rattle.std.specs.Prelude.{[]}
use Rattle.byte_parts.specs.Refusals.{Refusal, refuse}
use Rattle.ld_so_cache.specs.Faults.{cache_refusal}
use Rattle.proc_map.specs.Faults.{line_refusal}
use Rattle.attach_target.specs.declared.fault.TargetFault.{TargetFault}
use Rattle.attach_target.specs.declared.fault.TargetFault.TheVariants.{MapsUnreadable, Line, CacheUnreadable, Cache, InvalidTarget}

-- the number and the values of each fault; a lower fault is carried whole
abbrev pub target_refusal : TargetFault → Refusal
target_refusal MapsUnreadable = refuse 7 []
target_refusal (Line f) = line_refusal f
target_refusal CacheUnreadable = refuse 8 []
target_refusal (Cache f) = cache_refusal f
target_refusal InvalidTarget = refuse 9 []
