use Rattle.std.proofs.Common.{◌≡◌, ◌++◌, drop}
use Rattle.std.specs.List.{flat_map}
use Rattle.registers.specs.CheckLists.{values_of_setup}
use Rattle.registers.proofs.check_tables.setup_values.Given as goal

abbrev pub invariant-loop-setup : goal.invariant-loop-setup
invariant-loop-setup l = flat_map values_of_setup l.setups ≡ l.values.items ++ flat_map values_of_setup (drop l.setup-index l.setups)
