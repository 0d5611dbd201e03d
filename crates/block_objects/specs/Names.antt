-- What the names of a block's file are made from.
use Rattle.std.specs.Prelude.{◌≡◌, ℕ, ◌<◌, true, [], ◌∷◌, ◌++◌, length}
use Rattle.bud_design.specs.Designs.{Design, is_pin_of, place_name}
use Rattle.block_theory.specs.Blocks.{IsBlock}
use Rattle.block_theory.specs.BlockClocks.{prefix}
use Rattle.block_objects.specs.declared.names.BlockNames.{BlockNames}

-- the front is what stands before the names of pins inside the block, and the prefix is that of virtual clocks
pub record AreBlockNames (s : BlockNames) : Type 0 where
  pub block : IsBlock s.flat.now s.block
  pub front : s.front.now ≡ place_name s.flat.now.places 0 s.block ++ 47 ∷ []
  pub prefix : s.prefix.now ≡ prefix s.all.now.clocks

-- a pin at or below the block
pub record IsPinIn (d : Design) (b v : ℕ) : Type 0 where
  pub within : v < length d.pins
  pub inside : is_pin_of d b v ≡ true
