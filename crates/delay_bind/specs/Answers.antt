-- What the answer of a row's part says.
use Rattle.std.specs.Prelude.{◌≡◌, ℕ, ◌<◌, List, length, Bool, Option, Some, None, Result, Ok, Err, if◌then◌else◌}
use Rattle.bud_base.specs.declared.ids.PinId.{PinId}
use Rattle.bud_syntax.specs.declared.modules.Dir.{Dir}
use Rattle.bud_syntax.specs.declared.delays.SdfRow.{SdfRow}
use Rattle.bud_design.specs.Designs.{Design, is_input, is_output}
use Rattle.delay_bind.specs.Rows.{row_pin}
use Rattle.delay_bind.specs.declared.faults.BindFault.{BindFault}
use Rattle.delay_bind.specs.declared.faults.BindFault.TheVariants.{UnknownInstance, WrongCell, NotALeaf, UnknownPin, NotOneNet, MixedEdge, Latch, NegativeDelay, NegativeRest, NoMemory}

-- this holds, unless memory ran out
abbrev pub UnlessMemory : BindFault → Type 0 → Type 0
UnlessMemory (UnknownInstance name) P = P
UnlessMemory (WrongCell name) P = P
UnlessMemory (NotALeaf name) P = P
UnlessMemory (UnknownPin name) P = P
UnlessMemory (NotOneNet from to) P = P
UnlessMemory (MixedEdge name) P = P
UnlessMemory (Latch name) P = P
UnlessMemory (NegativeDelay from to) P = P
UnlessMemory (NegativeRest to) P = P
UnlessMemory NoMemory P = Unit {0}

-- there is this refusal, or none and a value that is such
abbrev pub IsJudged : {T : Type 0} → Option BindFault → (T → Type 0) → Result T BindFault → Type 0
IsJudged fault IsSuch (Ok x) = (fault ≡ None) × IsSuch x
IsJudged fault IsSuch (Err e) = UnlessMemory e (fault ≡ Some e)

-- the pin that a row's name means
pub record IsRowPin (d : Design) (row : SdfRow) (name : List ℕ) (v : PinId) : Type 0 where
  pub is : row_pin d row name ≡ Some v.0
  pub within : v.0 < length d.pins

-- the inputs, or the outputs
abbrev pub has_side : Bool → Dir → Bool
has_side output dir = if output then is_output dir else is_input dir
