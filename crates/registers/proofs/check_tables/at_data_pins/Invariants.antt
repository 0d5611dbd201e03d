use Rattle.std.proofs.Common.{◌≡◌, ◌++◌, drop}
use Rattle.std.specs.List.{filter_map}
use Rattle.registers.specs.CheckLists.{marked_check}
use Rattle.registers.proofs.check_tables.at_data_pins.Given as goal

abbrev pub invariant-loop-amount : goal.invariant-loop-amount
invariant-loop-amount l = filter_map (marked_check l.marks) l.amounts ≡ l.checks.items ++ filter_map (marked_check l.marks) (drop l.amount-index l.amounts)
