use Rattle.std.proofs.Common.{[], take}
use Rattle.module_nets.specs.Tables.{holds, seen_behind, HasNames}
use Rattle.module_nets.specs.Tops.{instantiated}
use Rattle.module_nets.proofs.tops.all_instantiated.Given as goal

abbrev pub invariant-loop-module : goal.invariant-loop-module
invariant-loop-module l = HasNames (seen_behind [] (instantiated (take l.module-index l.modules))) (holds l.names)
