use Rattle.std.proofs.Common.{◌≡◌, map, take}
use Rattle.module_nets.proofs.libraries.all_headers.Given as goal

abbrev pub invariant-loop-module : goal.invariant-loop-module
invariant-loop-module l = map (λ h. h.«module».now) l.headers.items ≡ take l.module-index l.modules
