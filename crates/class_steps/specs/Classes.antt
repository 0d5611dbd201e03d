-- Classes in a list.
use Rattle.std.specs.Prelude.{◌≡◌, ℕ, ◌<◌, List, length, All, Option, Some, None}
use Rattle.bud_design.specs.declared.layers.Class.{Class}
use Rattle.bud_design.specs.Layers.{class_number}

-- a place of the class, or none where it isn't in the list
abbrev pub IsFoundClass : List Class → Class → Option ℕ → Type 0
IsFoundClass classes k None = All (λ j. j ≡ k → ⊥) classes
IsFoundClass classes k (Some c) = (c < length classes) × (class_number classes c ≡ k)
