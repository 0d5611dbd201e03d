-- What each answer for a row says.
use Rattle.std.specs.Prelude.{◌≡◌, ℕ, ◌<◌, ◌↔◌, IsTrue, Bool, true, List, length, Option, Some, None, Result, Ok, Err}
use Rattle.net_delays.specs.Drives.{AreJoined}
use Rattle.bud_syntax.specs.declared.delays.SdfRow.{SdfRow}
use Rattle.bud_syntax.specs.declared.delays.SdfKind.{SdfKind}
use Rattle.bud_syntax.specs.declared.delays.SdfKind.TheVariants.{Cell, Delay, Wire, Setup as SetupRow}
use Rattle.bud_design.specs.Designs.{Design}
use Rattle.net_delays.specs.declared.alongs.Along.{Along}
use Rattle.registers.specs.Marks.{IsThroughWithin, IsSetupWithin}
use Rattle.registers.specs.declared.entries.Through.{Through}
use Rattle.registers.specs.declared.entries.Setup.{Setup}
use Rattle.delay_bind.specs.Rows.{row_name, name_fault, IsAcceptedRow, IsApart}
use Rattle.delay_bind.specs.Entries.{through_of, setup_of, along_of}
use Rattle.delay_bind.specs.declared.faults.BindFault.{BindFault}
use Rattle.delay_bind.specs.declared.faults.BindFault.TheVariants.{UnknownInstance, WrongCell, NotALeaf, UnknownPin, NotOneNet, MixedEdge, Latch, NegativeDelay, NegativeRest, NoMemory}
use Rattle.delay_bind.specs.declared.rows.Entry.{Entry}
use Rattle.delay_bind.specs.declared.rows.Entry.TheVariants.{Nothing, Leaf, Checked, Net}

-- the entry is what the row says
pub record IsEntry (d : Design) (row : SdfRow) (through : Option Through) (setup : Option Setup) (along : Option Along) : Type 0 where
  pub through_is : through_of d row row.kind ≡ through
  pub setup_is : setup_of d row row.kind ≡ setup
  pub along_is : along_of d row row.kind ≡ along

-- the row names no wires
abbrev pub IsNoWire : SdfKind → Type 0
IsNoWire Cell = Unit {0}
IsNoWire (Delay from edge to value) = Unit {0}
IsNoWire (Wire from to value) = ⊥
IsNoWire (SetupRow pin clock edge value) = Unit {0}

-- the pins of a delay along wires are pins
pub record IsAlongWithin (pins : ℕ) (x : Along) : Type 0 where
  pub from : x.from.0 < pins
  pub to : x.to.0 < pins

abbrev pub IsEntryOf : Design → SdfRow → Entry → Type 0
IsEntryOf d row Nothing = IsEntry d row None None None × IsNoWire row.kind
IsEntryOf d row (Leaf t) = IsEntry d row (Some t) None None × IsThroughWithin (length d.pins) t × IsNoWire row.kind
IsEntryOf d row (Checked s) = IsEntry d row None (Some s) None × IsSetupWithin (length d.pins) s × IsNoWire row.kind
IsEntryOf d row (Net x) = IsEntry d row None None (Some x) × IsAlongWithin (length d.pins) x

-- two pins of the row are on no net
pub record IsApartBy (d : Design) (row : SdfRow) (from to : List ℕ) : Type 0 where
  pub from_name : List ℕ
  pub to_name : List ℕ
  pub apart : IsApart d row from_name to_name
  pub from_is : from ≡ row_name row from_name
  pub to_is : to ≡ row_name row to_name

abbrev pub IsRowAnswer : Design → SdfRow → Result Entry BindFault → Type 0
IsRowAnswer d row (Ok entry) = IsAcceptedRow d row × IsEntryOf d row entry
IsRowAnswer d row (Err (UnknownInstance name)) = name_fault d row ≡ Some (UnknownInstance name)
IsRowAnswer d row (Err (WrongCell name)) = name_fault d row ≡ Some (WrongCell name)
IsRowAnswer d row (Err (NotALeaf name)) = name_fault d row ≡ Some (NotALeaf name)
IsRowAnswer d row (Err (UnknownPin name)) = name_fault d row ≡ Some (UnknownPin name)
IsRowAnswer d row (Err (NotOneNet from to)) = IsApartBy d row from to
IsRowAnswer d row (Err (MixedEdge name)) = ⊥
IsRowAnswer d row (Err (Latch name)) = ⊥
IsRowAnswer d row (Err (NegativeDelay from to)) = ⊥
IsRowAnswer d row (Err (NegativeRest to)) = ⊥
IsRowAnswer d row (Err NoMemory) = Unit {0}

-- the row names wires
abbrev pub IsWireRow : SdfKind → Type 0
IsWireRow Cell = ⊥
IsWireRow (Delay from edge to value) = ⊥
IsWireRow (Wire from to value) = Unit {0}
IsWireRow (SetupRow pin clock edge value) = ⊥

-- the refusal names the two pins of a row of wires, unless memory ran out
abbrev pub IsNetNamed : SdfRow → List ℕ → List ℕ → BindFault → Type 0
IsNetNamed row from to (NotOneNet a b) = (a ≡ row_name row from) × (b ≡ row_name row to)
IsNetNamed row from to NoMemory = Unit {0}
IsNetNamed row from to (UnknownInstance name) = ⊥
IsNetNamed row from to (WrongCell name) = ⊥
IsNetNamed row from to (NotALeaf name) = ⊥
IsNetNamed row from to (UnknownPin name) = ⊥
IsNetNamed row from to (MixedEdge name) = ⊥
IsNetNamed row from to (Latch name) = ⊥
IsNetNamed row from to (NegativeDelay a b) = ⊥
IsNetNamed row from to (NegativeRest name) = ⊥

abbrev pub IsApartFault : SdfRow → SdfKind → BindFault → Type 0
IsApartFault row Cell fault = ⊥
IsApartFault row (Delay from edge to value) fault = ⊥
IsApartFault row (Wire from to value) fault = IsNetNamed row from to fault
IsApartFault row (SetupRow pin clock edge value) fault = ⊥

abbrev pub IsEntryWithin : ℕ → Entry → Type 0
IsEntryWithin pins Nothing = Unit {0}
IsEntryWithin pins (Leaf t) = Unit {0}
IsEntryWithin pins (Checked s) = Unit {0}
IsEntryWithin pins (Net x) = IsAlongWithin pins x

-- whether the wires join the pins of a delay along wires
abbrev pub AreEntryJoined : (ℕ → Option ℕ) → Entry → Bool → Type 0
AreEntryJoined drive Nothing joined = joined ≡ true
AreEntryJoined drive (Leaf t) joined = joined ≡ true
AreEntryJoined drive (Checked s) joined = joined ≡ true
AreEntryJoined drive (Net x) joined = IsTrue joined ↔ AreJoined drive x.from.0 x.to.0
