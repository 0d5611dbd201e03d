-- The numbers of a block's file are such as are read, where its values are within the limit.
use Rattle.std.specs.Prelude.{◌≡◌, ℕ, ◌==◌, nat_lt, ℤ, List, [], ◌∷◌, ◌++◌, length, All, Contains, None}
use Rattle.std.specs.List.{list_any}
use Rattle.std.proofs.Common.{sym, subst}
use Rattle.bud_syntax.specs.Ranges.{IsReadCommand}
use Rattle.bud_design.specs.declared.policies.NumberedCommand.{NumberedCommand}
use Rattle.bud_design.specs.declared.policies.Policy.{Policy}
use Rattle.bud_design.specs.Arcs.{Arc}
use Rattle.bud_design.specs.Clocks.{clock_at}
use Rattle.bud_design.specs.Layers.{class_number}
use Rattle.clock_reach.specs.Reached.{AreReached}
use Rattle.block_theory.specs.BlockClocks.{source_objects, real_clocks}
use Rattle.block_theory.specs.BlockFiles.{block_commands}
use Rattle.block_theory.specs.BlockPorts.{Context, class_clock, node_class, input_nodes, output_nodes, port_classes}
use Rattle.block_theory.specs.Blocks.{IsBlock, through_inside}
use Rattle.block_theory.specs.BlockValues.{LieBetween, value_past}
use Rattle.block_laws.specs.LayeredDesigns.{IsLayeredDesign}
use Rattle.block_pieces.proofs.FileReadings.{class-below}
use Rattle.block_pieces.proofs.Numbering.{filtered-below}
use Rattle.block_readings.proofs.Amounts.{inputs-within, outputs-within}
use Rattle.block_readings.proofs.ClockTimes.{HasReadTimes, resolved-times}
use Rattle.block_readings.proofs.CommandRanges.{commands-read}

module _ (x : Context) (arcs : List Arc) (commands : List NumberedCommand) (policy : Policy) (given : IsLayeredDesign x.design x.timing arcs commands x.all policy x.layered)
    (block_is : IsBlock x.design x.block) (through : through_inside x.design (x.block ∷ []) x.all.exceptions ≡ None) (reached : AreReached x.design 0 x.all.clocks x.reached) where
  times : All HasReadTimes x.all.clocks
  times =
      subst (All HasReadTimes) (sym given.constraints.clocks)
      (resolved-times (record { design = x.design; root = 0; timing = x.timing }) commands given.constraints.scope given.constraints.says given.read)

  real-times : (c : ℕ) → Contains (real_clocks x) c → HasReadTimes (clock_at x.all.clocks c)
  real-times c has = times c (clock_at [] 0) (filtered-below (λ c. nat_lt 0 (length (source_objects x c))) (length x.all.clocks) c has)

  class-times : (k : ℕ) → Contains (port_classes x) k → HasReadTimes (class_clock x.all x.layered k)
  class-times k has =
      times (class_number x.layered.classes k).clock (clock_at [] 0)
      (class-below x arcs commands policy given block_is through reached k
      (filtered-below (λ k. list_any (λ n. node_class x.layered n == k) (input_nodes x.design x.layered x.block ++ output_nodes x.design x.layered x.block)) (length x.layered.classes) k has))

  pub numbers-read : (early late arrivals : List ℤ) (blocks : List ℕ) → LieBetween x.layered.problem early arrivals late → value_past x.design x.all x.layered early late blocks ≡ None → Contains blocks x.block
      → All IsReadCommand (block_commands x arrivals)
  numbers-read early late arrivals blocks between none there =
      commands-read x arrivals real-times class-times
      (inputs-within x early late arrivals blocks between none there given.layering.node_count)
      (outputs-within x early late arrivals blocks between none there given.layering.node_count) given.sound.kinds
