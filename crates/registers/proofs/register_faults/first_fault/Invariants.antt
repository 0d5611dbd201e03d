use Rattle.std.proofs.Common.{◌≡◌, ◌-◌, length}
use Rattle.std.specs.List.{range_with_len}
use Rattle.bud_design.specs.Lists.{first_some}
use Rattle.registers.specs.FaultLists.{fault_of}
use Rattle.registers.proofs.register_faults.first_fault.Given as goal

abbrev pub invariant-loop-place : goal.invariant-loop-place
invariant-loop-place l =
    first_some (fault_of l.faults l.latches) (range_with_len 0 (length l.faults))
    ≡ first_some (fault_of l.faults l.latches) (range_with_len l.place (length l.faults - l.place))
