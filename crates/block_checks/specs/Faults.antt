-- The refusal of a through pin by its name.
use Rattle.std.specs.Prelude.{◌≡◌, ℕ, List}
use Rattle.block_theory.specs.declared.refusals.WriteFault.{WriteFault}
use Rattle.block_theory.specs.declared.refusals.WriteFault.TheVariants.{ThroughInside, Range, NoMemory}

-- the fault tells this name; memory may be wanting
abbrev pub IsThroughFault : List ℕ → WriteFault → Type 0
IsThroughFault name (ThroughInside told) = told ≡ name
IsThroughFault name (Range value) = ⊥
IsThroughFault name NoMemory = Unit {0}
