-- How lines are refused.
use Rattle.std.specs.Prelude.{◌≡◌, ℕ, Bool, false, List, Option, Some, None, Result, Ok, Err}
use Rattle.bud_design.specs.Designs.{Design}
use Rattle.bud_design.specs.Policies.{Block, block_of, are_nested}
use Rattle.bud_design.specs.declared.policies.PolicyLine.{PolicyLine}
use Rattle.bud_design.specs.declared.policies.PolicyLine.TheVariants as line
use Rattle.layer_theory.specs.declared.refusals.LayerFault.{LayerFault}
use Rattle.layer_theory.specs.declared.refusals.LayerFault.TheVariants.{UnknownArc, UnknownInstance, NestedBlocks, UnknownClock, TooManyStates, TooManyItems, NoMemory}

-- the fault is this one, or want of memory
abbrev pub IsFaultOf : Option LayerFault → LayerFault → Type 0
IsFaultOf o (UnknownArc from to) = o ≡ Some (UnknownArc from to)
IsFaultOf o (UnknownInstance name) = o ≡ Some (UnknownInstance name)
IsFaultOf o (NestedBlocks a b) = o ≡ Some (NestedBlocks a b)
IsFaultOf o (UnknownClock name) = o ≡ Some (UnknownClock name)
IsFaultOf o (TooManyStates count) = ⊥
IsFaultOf o (TooManyItems count) = ⊥
IsFaultOf o NoMemory = Unit {0}

-- refused by this fault, or by none
abbrev pub IsRefusal : Option LayerFault → Result (Unit {0}) LayerFault → Type 0
IsRefusal o (Ok _) = o ≡ None
IsRefusal o (Err fault) = IsFaultOf o fault

abbrev pub is_nested_block : Design → ℕ → Option Block → Bool
is_nested_block d p None = false
is_nested_block d p (Some b) = are_nested d b.place p

-- the line is a block that is nested with the place
abbrev pub nests : Design → ℕ → PolicyLine → Bool
nests d p x = is_nested_block d p (block_of d x)

-- the refusal of a block that is nested with an earlier one
abbrev pub IsNestedFault : PolicyLine → List ℕ → LayerFault → Type 0
IsNestedFault (line.Block other) path fault = IsFaultOf (Some (NestedBlocks other path)) fault
IsNestedFault (line.Default extra weight clock) path fault = fault ≡ NoMemory
IsNestedFault (line.Inst other extra weight clock) path fault = fault ≡ NoMemory
IsNestedFault (line.Arc from to extra weight clock) path fault = fault ≡ NoMemory
