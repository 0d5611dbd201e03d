-- A block's file is accepted of the block's design, and its commands say what the file means.
use Rattle.std.specs.Prelude.{◌≡◌, ℤ, List, Ok}
use Rattle.timing_scopes.specs.Resolving.{resolved}
use Rattle.block_theory.specs.BlockFiles.{block_commands, numbered_from}
use Rattle.block_theory.specs.BlockPorts.{Context}
use Rattle.block_theory.specs.BlockScopes.{block_scope}

abbrev pub ReadsAsMeant : Context → List ℤ → Type 0
ReadsAsMeant x arrivals =
    resolved (record { design = x.design; root = x.block; timing = x.timing }) (numbered_from 1 (block_commands x arrivals)) ≡ Ok (block_scope x arrivals)
