use Rattle.std.proofs.Common.{◌≡◌, drop}
use Rattle.bud_design.specs.Lists.{first_some}
use Rattle.module_nets.specs.Entering.{bad_select}
use Rattle.module_nets.proofs.nets.NetTable.first_bad_select.Given as goal

abbrev pub invariant-loop-k : goal.invariant-loop-k
invariant-loop-k l = first_some (bad_select l.self.«module».now) l.pieces ≡ first_some (bad_select l.self.«module».now) (drop l.k l.pieces)
