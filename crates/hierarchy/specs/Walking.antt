-- The walk over the instances of a netlist.
use Rattle.std.specs.Prelude.{◌≡◌, ℕ, suc, ◌<◌, ◌+◌, true, false, List, [], ◌∷◌, ◌++◌, map, reverse, length, All, Option, Some, None, Result, Ok, Err, slice_index_or}
use Rattle.bud_syntax.specs.declared.modules.Instance.{Instance}
use Rattle.bud_syntax.specs.declared.modules.Module.{Module}
use Rattle.module_nets.specs.declared.faults.ElabFault.{ElabFault}
use Rattle.module_nets.specs.declared.faults.ElabFault.TheVariants.{NoMemory}
use Rattle.module_nets.specs.Entering.{Entry, entered_count}
use Rattle.module_nets.specs.Nets.{module_called}
use Rattle.module_nets.specs.Tops.{module_at}
use Rattle.elaborations.specs.Elaborations.{Built, placed, all_placed, enter}
use Rattle.hierarchy.specs.declared.walks.Trail.{Trail}
use Rattle.hierarchy.specs.declared.walks.Survey.{Survey}
use Rattle.hierarchy.specs.declared.walks.Walk.{Walk}
use Rattle.hierarchy.specs.declared.walks.Child.{Child}
use Rattle.hierarchy.specs.Placing.{HasShortBit}
use Rattle.hierarchy.specs.Surveys.{AreWiresKnown, AreKinds}

-- the module that is entered, with its path and the modules that are being entered
abbrev pub entry_at : List Module → ℕ → Trail → Entry
entry_at modules kind trail = record {
  «module» = module_at modules kind;
  path = trail.path.items;
  entered = map (λ n. (module_at modules n).name) (reverse trail.line.items);
}

-- the places and pins so far, and the count
abbrev pub built_of : Walk → Built
built_of w = record { places = w.places.items; pins = w.pins.items; count = w.count }

-- a fault is that of the elaboration; want of memory may come at any time
abbrev pub IsFault : Result Built ElabFault → ElabFault → Type 0
IsFault whole NoMemory = Unit {0}
IsFault whole fault = whole ≡ Err fault

pub record IsTrail (modules : List Module) (trail : Trail) : Type 0 where
  pub line : All (λ n. n < length modules) trail.line.items

pub record IsSurvey (modules : List Module) (survey : Survey) : Type 0 where
  pub wires : AreWiresKnown modules survey.known.items survey.wires.items

-- what the walk keeps
pub record IsWalk (modules : List Module) (w : Walk) : Type 0 where
  pub trail : IsTrail modules w.trail
  pub survey : IsSurvey modules w.survey
  pub kinds : AreKinds modules w.survey.known.items w.places.items w.kinds.items
  pub short : All HasShortBit w.pins.items

-- what stays known
pub record KeepsKnown (old new : Survey) : Type 0 where
  pub known : (n : ℕ) → slice_index_or old.known.items n false ≡ true → slice_index_or new.known.items n false ≡ true

-- the wires of the module of this number are known
pub record IsSurveyed (modules : List Module) (kind : ℕ) (old new : Survey) : Type 0 where
  pub survey : IsSurvey modules new
  pub keeps : KeepsKnown old new
  pub known : slice_index_or new.known.items kind false ≡ true

-- the module of this number was entered, which made the count
pub record HasEntered (modules : List Module) (kind before : ℕ) (old new : Survey) (counted : ℕ) : Type 0 where
  pub survey : IsSurvey modules new
  pub keeps : KeepsKnown old new
  pub known : slice_index_or new.known.items kind false ≡ true
  pub count : counted ≡ before + entered_count modules (module_at modules kind)

pub record SameTrail (old new : Trail) : Type 0 where
  pub path : new.path.items ≡ old.path.items
  pub line : new.line.items ≡ old.line.items

-- the trail goes on to an instance
pub record GoesOn (name : List ℕ) (kind : ℕ) (old new : Trail) : Type 0 where
  pub path : new.path.items ≡ old.path.items ++ name ∷ []
  pub line : new.line.items ≡ old.line.items ++ kind ∷ []

-- the instances of a module are placed
pub record HasPlaced (modules : List Module) (whole : Result Built ElabFault) (old new : Walk) : Type 0 where
  pub built : whole ≡ Ok (built_of new)
  pub trail : SameTrail old.trail new.trail
  pub walk : IsWalk modules new

-- a plain instance is entered and placed, and those in it are still to be placed
pub record HasBegun (modules : List Module) (levels : ℕ) (whole : Result Built ElabFault) (old new : Walk) (child : Child) : Type 0 where
  pub below : ℕ
  pub levels_are : levels ≡ suc below
  pub kind : child.kind < length modules
  pub name : List ℕ
  pub trail : GoesOn name child.kind old.trail new.trail
  pub rest : whole ≡ all_placed (enter below modules) modules (entry_at modules child.kind new.trail) child.place (module_at modules child.kind).instances (built_of new)
  pub walk : IsWalk modules new

abbrev pub IsBegun : List Module → ℕ → Result Built ElabFault → Walk → Walk → Option Child → Type 0
IsBegun modules levels whole old new None = HasPlaced modules whole old new
IsBegun modules levels whole old new (Some child) = HasBegun modules levels whole old new child

-- an instance is placed as elaboration does it; the module that it stands in doesn't matter beyond the trail
abbrev pub step : List Module → ℕ → Trail → ℕ → Instance → Built → Result Built ElabFault
step modules levels trail here i built = placed (enter levels modules) (entry_at modules 0 trail) here i (module_called modules i.«module») built

-- the instances of a module are placed
abbrev pub steps : List Module → ℕ → ℕ → Trail → ℕ → List Instance → Built → Result Built ElabFault
steps modules levels kind trail here is built = all_placed (enter levels modules) modules (entry_at modules kind trail) here is built

abbrev pub IsStep : List Module → ℕ → Result Built ElabFault → Walk → Walk → Result (Option Child) ElabFault → Type 0
IsStep modules levels whole old new (Ok child) = IsBegun modules levels whole old new child
IsStep modules levels whole old new (Err fault) = IsFault whole fault

abbrev pub IsPlacing : List Module → Result Built ElabFault → Walk → Walk → Result (Unit {0}) ElabFault → Type 0
IsPlacing modules whole old new (Ok done) = HasPlaced modules whole old new
IsPlacing modules whole old new (Err fault) = IsFault whole fault

abbrev pub IsBeginning : List Module → ℕ → Result Built ElabFault → Walk → Walk → Result Child ElabFault → Type 0
IsBeginning modules levels whole old new (Ok child) = HasBegun modules levels whole old new child
IsBeginning modules levels whole old new (Err fault) = IsFault whole fault
