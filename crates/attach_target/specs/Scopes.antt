-- Which scopes look at a process's maps. Assumes nothing.
use Rattle.std.specs.Prelude.{Bool, true, false}
use Rattle.attach_target.specs.declared.scope.UProbeScope.{UProbeScope}
use Rattle.attach_target.specs.declared.scope.UProbeScope.TheVariants.{AllProcesses, CallingProcess, OneProcess}

-- the caller's maps or one process's; for all processes there are none to look at
abbrev pub uses_maps : UProbeScope → Bool
uses_maps AllProcesses = false
uses_maps CallingProcess = true
uses_maps (OneProcess n) = true
