-- How a clock of a block's file comes from one of the top.
use Rattle.std.specs.Prelude.{◌≡◌, ℕ, Contains}
use Rattle.bud_design.specs.Clocks.{Reaches}
use Rattle.block_theory.specs.BlockClocks.{real_clocks}
use Rattle.block_theory.specs.BlockPorts.{Context}
use Rattle.block_theory.specs.BlockScopes.{real_number}

-- the clock of this number stands for a real clock, which reaches the pin in the whole design
pub record ComesFromTop (x : Context) (k v : ℕ) : Type 0 where
  pub clock : ℕ
  pub real : Contains (real_clocks x) clock
  pub number : k ≡ real_number x clock
  pub reaches : Reaches x.design 0 x.all.clocks clock v
