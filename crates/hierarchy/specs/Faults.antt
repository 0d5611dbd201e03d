-- What is refused as a module is entered, for its drivers.
use Rattle.std.specs.Prelude.{ℕ, List, Option}
use Rattle.std.specs.Option.{option_map}
use Rattle.bud_design.specs.Names.{bit_name}
use Rattle.bud_syntax.specs.declared.modules.Module.{Module}
use Rattle.module_nets.specs.declared.faults.ElabFault.{ElabFault}
use Rattle.module_nets.specs.declared.faults.ElabFault.TheVariants.{TwoDrivers}
use Rattle.module_nets.specs.Nets.{NetBit}
use Rattle.module_nets.specs.Paths.{printed_below}
use Rattle.net_drivers.specs.Drivers.{twice_driven}

-- the printed name of a net bit below a path of printed identifiers
abbrev pub bit_below : List (List ℕ) → NetBit → List ℕ
bit_below path b = bit_name (printed_below path b.net) b.bit

-- the first net bit of a module that more than one thing drives, the module's instance having a path
abbrev pub two_drivers : List Module → Module → List (List ℕ) → Option ElabFault
two_drivers modules m path = option_map (λ b. TwoDrivers (bit_below path b)) (twice_driven modules m)
