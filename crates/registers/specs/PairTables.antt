-- The pairs of cell and launch arcs, with the number of those that are left out.
use Rattle.std.specs.Prelude.{List}
use Rattle.bud_design.specs.Designs.{Design}
use Rattle.bud_design.specs.Lists.{Lists}
use Rattle.bud_design.specs.Orders.{pair_before}
use Rattle.registers.specs.Registers.{IsPair, IsLeftOutCount}
use Rattle.registers.specs.declared.entries.Through.{Through}
use Rattle.registers.specs.declared.entries.Setup.{Setup}
use Rattle.registers.specs.declared.pair_tables.PairTable.{PairTable}

pub record IsPairTable (d : Design) (throughs : List Through) (setups : List Setup) (table : PairTable) : Type 0 where
  pub pairs : Lists pair_before (IsPair d throughs setups) table.pairs
  pub left_out : IsLeftOutCount d throughs setups table.left_out
