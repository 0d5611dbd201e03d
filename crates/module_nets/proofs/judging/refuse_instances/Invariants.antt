use Rattle.std.proofs.Common.{◌≡◌, drop}
use Rattle.bud_design.specs.Lists.{first_some}
use Rattle.module_nets.specs.Entering.{instance_fault}
use Rattle.module_nets.specs.Judging.{entry_in}
use Rattle.module_nets.proofs.judging.refuse_instances.Given as goal

abbrev pub invariant-loop-k : goal.invariant-loop-k
invariant-loop-k l =
    first_some (instance_fault l.library.modules.now (entry_in l.library.modules.now l.nets.«module».now l.path l.entered)) l.nets.«module».now.instances
    ≡ first_some (instance_fault l.library.modules.now (entry_in l.library.modules.now l.nets.«module».now l.path l.entered)) (drop l.k l.nets.«module».now.instances)
