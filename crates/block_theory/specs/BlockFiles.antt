-- The constraint file of a block: its clocks, its port delays from arrivals, and its exceptions.
use Rattle.std.specs.Prelude.{◌≡◌, ℕ, suc, ℤ, ◌-ℤ◌, true, List, [], ◌∷◌, ◌++◌, map, Option, Some}
use Rattle.bud_syntax.specs.declared.constraints.SdcCommand.{SdcCommand}
use Rattle.bud_syntax.specs.declared.constraints.SdcCommand.TheVariants as command
use Rattle.bud_syntax.specs.declared.constraints.SdcFile.{SdcFile}
use Rattle.bud_design.specs.declared.clocks.Constraints.{Constraints}
use Rattle.bud_design.specs.declared.layers.Layered.{Layered}
use Rattle.bud_design.specs.declared.policies.NumberedCommand.{NumberedCommand}
use Rattle.bud_design.specs.declared.timings.Timing.{Timing}
use Rattle.bud_design.specs.Designs.{Design, place_at}
use Rattle.bud_design.specs.Layers.{class_number}
use Rattle.bud_flow.specs.Sums.{number_at}
use Rattle.clock_reach.specs.Reached.{AreReached}
use Rattle.block_theory.specs.BlockClocks.{port_objects, virtual_name, clock_commands}
use Rattle.block_theory.specs.BlockExceptions.{exception_commands}
use Rattle.block_theory.specs.BlockPorts.{Context, node_at, node_class, class_clock, input_nodes, output_nodes}

-- the delay that an arrival gives at a node of an input bit, and at one of an output bit: what is left of the period
abbrev pub input_amount : List ℤ → ℕ → ℤ
input_amount arrivals n = number_at arrivals n

abbrev pub output_amount : Constraints → Layered → List ℤ → ℕ → ℤ
output_amount all layered arrivals n = (class_clock all layered (node_class layered n)).period -ℤ number_at arrivals n

-- on the virtual clock of the node's class at its edge, added to those at the bit
abbrev pub input_delay : Context → List ℤ → ℕ → SdcCommand
input_delay x arrivals n =
    command.InputDelay (input_amount arrivals n) (virtual_name x (node_class x.layered n)) (class_number x.layered.classes (node_class x.layered n)).edge
    true true (port_objects x ((node_at x.layered.nodes n).pin.0 ∷ []))

abbrev pub output_delay : Context → List ℤ → ℕ → SdcCommand
output_delay x arrivals n =
    command.OutputDelay (output_amount x.all x.layered arrivals n) (virtual_name x (node_class x.layered n)) (class_number x.layered.classes (node_class x.layered n)).edge
    true true (port_objects x ((node_at x.layered.nodes n).pin.0 ∷ []))

-- by port bit and then class
abbrev pub delay_commands : Context → List ℤ → List SdcCommand
delay_commands x arrivals =
    map (input_delay x arrivals) (input_nodes x.design x.layered x.block)
    ++ map (output_delay x arrivals) (output_nodes x.design x.layered x.block)

abbrev pub block_commands : Context → List ℤ → List SdcCommand
block_commands x arrivals = clock_commands x ++ (delay_commands x arrivals ++ exception_commands x)

-- for the block's module as a top of its own
abbrev pub block_file : Context → List ℤ → SdcFile
block_file x arrivals = record { design = Some (place_at x.design.places x.block).«module»; commands = block_commands x arrivals }

-- the file of a block for these arrivals
pub record IsBlockFile (d : Design) (t : Timing) (all : Constraints) (layered : Layered) (arrivals : List ℤ) (b : ℕ) (file : SdcFile) : Type 0 where
  pub reached : List (Option ℕ)
  pub are_reached : AreReached d 0 all.clocks reached
  pub file_is : file ≡ block_file (record { design = d; timing = t; all = all; layered = layered; reached = reached; block = b }) arrivals

-- the commands of a text have the numbers from 1 on
abbrev pub numbered_from : ℕ → List SdcCommand → List NumberedCommand
numbered_from n [] = []
numbered_from n (c ∷ cs) = record { number = n; command = c } ∷ numbered_from (suc n) cs
