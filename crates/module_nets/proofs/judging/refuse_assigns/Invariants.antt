use Rattle.std.proofs.Common.{◌≡◌, drop}
use Rattle.bud_design.specs.Lists.{first_some}
use Rattle.module_nets.specs.Entering.{assign_fault}
use Rattle.module_nets.specs.Judging.{entry_at}
use Rattle.module_nets.proofs.judging.refuse_assigns.Given as goal

abbrev pub invariant-loop-assign : goal.invariant-loop-assign
invariant-loop-assign l =
    first_some (assign_fault (entry_at l.nets.«module».now l.path)) l.nets.«module».now.assigns
    ≡ first_some (assign_fault (entry_at l.nets.«module».now l.path)) (drop l.assign-index l.nets.«module».now.assigns)
