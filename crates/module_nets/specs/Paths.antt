-- Printed names below a path.
use Rattle.std.specs.Prelude.{ℕ, List, [], ◌∷◌, ◌++◌}
use Rattle.std.specs.List.{join_with_byte}
use Rattle.bud_design.specs.Names.{printed}

-- the printed name of an identifier below printed identifiers
abbrev pub printed_below : List (List ℕ) → List ℕ → List ℕ
printed_below path name = join_with_byte 47 (path ++ printed name ∷ [])
