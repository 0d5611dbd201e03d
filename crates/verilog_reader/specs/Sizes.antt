-- How long the lists of a netlist are at most.
use Rattle.std.specs.Prelude.{ℕ, ◌≤◌, length, All, List}
use Rattle.bud_syntax.specs.declared.modules.Piece.{Piece}
use Rattle.bud_syntax.specs.declared.modules.Link.{Link}
use Rattle.bud_syntax.specs.declared.modules.Link.TheVariants.{Named, Placed}
use Rattle.bud_syntax.specs.declared.modules.Assign.{Assign}
use Rattle.bud_syntax.specs.declared.modules.Instance.{Instance}
use Rattle.bud_syntax.specs.declared.modules.Module.{Module}

abbrev pub pieces_of : Link → List Piece
pieces_of (Named _ pieces) = pieces
pieces_of (Placed pieces) = pieces

-- a link has no more pieces than this
abbrev pub LinkHasAtMost : ℕ → Link → Type 0
LinkHasAtMost most link = length (pieces_of link) ≤ most

-- nor has either side of an assignment
pub record AssignHasAtMost (most : ℕ) (assign : Assign) : Type 0 where
  pub left : length assign.left ≤ most
  pub right : length assign.right ≤ most

-- an instance has no more links than this, and these have no more pieces
pub record InstanceHasAtMost (most : ℕ) (instance : Instance) : Type 0 where
  pub links : length instance.links ≤ most
  pub pieces : All (LinkHasAtMost most) instance.links

-- no list of a module has more elements than this
pub record ModuleHasAtMost (most : ℕ) («module» : Module) : Type 0 where
  pub ports : length «module».ports ≤ most
  pub nets : length «module».nets ≤ most
  pub assigns : length «module».assigns ≤ most
  pub instances : length «module».instances ≤ most
  pub sides : All (AssignHasAtMost most) «module».assigns
  pub links : All (InstanceHasAtMost most) «module».instances

-- no list of a netlist has more elements than this: it has no more modules, and no list of theirs has more
pub record HasAtMost (most : ℕ) (netlist : List Module) : Type 0 where
  pub modules : length netlist ≤ most
  pub each : All (ModuleHasAtMost most) netlist
