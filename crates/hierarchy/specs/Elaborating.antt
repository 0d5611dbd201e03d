-- The walk from the top.
use Rattle.std.specs.Prelude.{◌≡◌, ℕ, List, [], ◌∷◌, Option, Result, Ok, Err, Contains}
use Rattle.bud_syntax.specs.declared.modules.Module.{Module}
use Rattle.module_nets.specs.declared.faults.ElabFault.{ElabFault}
use Rattle.bud_design.specs.Designs.{Design}
use Rattle.bud_design.specs.Lists.{Lists}
use Rattle.elaborations.specs.Elaborations.{Built, elaborated, all_wires, ends_before}
use Rattle.hierarchy.specs.declared.walks.Walk.{Walk}
use Rattle.hierarchy.specs.Walking.{built_of, IsFault, IsWalk}

-- a walk that begins at the module of a number
pub record IsWalkFrom (modules : List Module) (kind : ℕ) (w : Walk) : Type 0 where
  pub walk : IsWalk modules w
  pub places : w.places.items ≡ []
  pub pins : w.pins.items ≡ []
  pub path : w.trail.path.items ≡ []
  pub line : w.trail.line.items ≡ kind ∷ []

-- the walk made what elaboration makes
pub record IsElaborated (modules : List Module) (w : Walk) : Type 0 where
  pub top : Option (List ℕ)
  pub built : elaborated modules top ≡ Ok (built_of w)

-- the design has the places and pins of the walk, and their wires
pub record IsDesignOf (modules : List Module) (w : Walk) (d : Design) : Type 0 where
  pub places : d.places ≡ w.places.items
  pub pins : d.pins ≡ w.pins.items
  pub wires : Lists ends_before (Contains (all_wires 4194304 modules d.places d.pins)) d.wires

-- what was walked over
pub record IsWalked (modules : List Module) (whole : Result Built ElabFault) (w : Walk) : Type 0 where
  pub built : whole ≡ Ok (built_of w)
  pub walk : IsWalk modules w

abbrev pub IsWalkAnswer : List Module → Result Built ElabFault → Result Walk ElabFault → Type 0
IsWalkAnswer modules whole (Ok w) = IsWalked modules whole w
IsWalkAnswer modules whole (Err fault) = IsFault whole fault
