-- What contracts see of potentials.
use Rattle.std.specs.Prelude.{ℤ, List}

-- potentials of nodes: those that were kept before the open round, and those of now
pub record Round : Type 0 where
  pub kept : List ℤ
  pub present : List ℤ
