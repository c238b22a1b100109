-- Which refusal each fault is. Assumes nothing.
use Rattle.std.specs.Prelude.{[], ◌∷◌}
use Rattle.byte_parts.specs.Refusals.{Refusal, refuse}
use Rattle.proc_map.specs.declared.fault.LineFault.{LineFault}
use Rattle.proc_map.specs.declared.fault.LineFault.TheVariants.{ParseLine}

-- the number and the values of each fault
abbrev pub line_refusal : LineFault → Refusal
line_refusal (ParseLine place len) = refuse 3 (place ∷ len ∷ [])
