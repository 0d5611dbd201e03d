-- What the steps of binding say: the entries of all rows, and what the entries give.
use Rattle.std.specs.Prelude.{◌≡◌, ℕ, ◌<◌, length, List, [], ◌∷◌, ◌++◌, ℤ, take, All, Some, None, Result, Ok, Err}
use Rattle.bud_syntax.specs.declared.delays.SdfRow.{SdfRow}
use Rattle.bud_design.specs.declared.timings.Pair.{Pair}
use Rattle.bud_design.specs.declared.timings.Timing.{Timing}
use Rattle.bud_design.specs.Designs.{Design, pin_name}
use Rattle.net_delays.specs.Nets.{AreWireDelays, HaveRoom}
use Rattle.net_delays.specs.declared.alongs.Along.{Along}
use Rattle.registers.specs.PairTables.{IsPairTable}
use Rattle.registers.specs.declared.pair_tables.PairTable.{PairTable}
use Rattle.registers.specs.declared.faults.RegisterFault.{RegisterFault}
use Rattle.registers.specs.declared.faults.RegisterFault.TheVariants.{MixedEdge as MixedPin, Latch as LatchAt}
use Rattle.delay_bind.specs.Rows.{IsAcceptedRow}
use Rattle.delay_bind.specs.Entries.{Entries, entries_of, refusal_of}
use Rattle.delay_bind.specs.Bindings.{IsTiming, negative_pair, IsNegativePair, HavePairsRoom, IsNegativeWire, IsRefusal}
use Rattle.delay_bind.specs.declared.faults.BindFault.{BindFault}
use Rattle.delay_bind.specs.declared.faults.BindFault.TheVariants.{UnknownInstance, WrongCell, NotALeaf, UnknownPin, NotOneNet, MixedEdge, Latch, NegativeDelay, NegativeRest, NoMemory}
use Rattle.delay_bind.specs.declared.rows.Entry.{Entry}
use Rattle.delay_bind.specs.declared.rows.Entry.TheVariants.{Nothing, Leaf, Checked, Net}
use Rattle.delay_bind.specs.declared.entries.EntryLists.{EntryLists}

abbrev pub entries_in : EntryLists → Entries
entries_in lists = record { throughs = lists.throughs.items; setups = lists.setups.items; alongs = lists.alongs.items }

-- the entries with one more
abbrev pub with_entry : Entries → Entry → Entries
with_entry e Nothing = e
with_entry e (Leaf t) = record { throughs = e.throughs ++ t ∷ []; setups = e.setups; alongs = e.alongs }
with_entry e (Checked s) = record { throughs = e.throughs; setups = e.setups ++ s ∷ []; alongs = e.alongs }
with_entry e (Net x) = record { throughs = e.throughs; setups = e.setups; alongs = e.alongs ++ x ∷ [] }

-- the first so many rows are accepted, and these are their entries
pub record AreReadTo (d : Design) (rows : List SdfRow) (count : ℕ) (e : Entries) : Type 0 where
  pub accepted : All (IsAcceptedRow d) (take count rows)
  pub entries : entries_of d (take count rows) ≡ e

pub record AreRead (d : Design) (rows : List SdfRow) (e : Entries) : Type 0 where
  pub accepted : All (IsAcceptedRow d) rows
  pub entries : entries_of d rows ≡ e

-- the pin or the place of a refusal is of the design
abbrev pub IsFaultWithin : Design → RegisterFault → Type 0
IsFaultWithin d (MixedPin v) = v.0 < length d.pins
IsFaultWithin d (LatchAt p) = p < length d.places

abbrev pub IsRowsAnswer : Design → List SdfRow → Result EntryLists BindFault → Type 0
IsRowsAnswer d rows (Ok lists) = AreRead d rows (entries_in lists)
IsRowsAnswer d rows (Err fault) = IsRefusal d rows fault

-- the refusal of a pair, or want of memory
abbrev pub IsPairRefusal : Design → Entries → BindFault → Type 0
IsPairRefusal d e (UnknownInstance name) = ⊥
IsPairRefusal d e (WrongCell name) = ⊥
IsPairRefusal d e (NotALeaf name) = ⊥
IsPairRefusal d e (UnknownPin name) = ⊥
IsPairRefusal d e (NotOneNet from to) = ⊥
IsPairRefusal d e (MixedEdge name) = ⊥
IsPairRefusal d e (Latch name) = ⊥
IsPairRefusal d e (NegativeDelay from to) = IsNegativePair d e from to
IsPairRefusal d e (NegativeRest to) = ⊥
IsPairRefusal d e NoMemory = Unit {0}

-- the refusal names the pins of the pair, unless memory ran out
abbrev pub IsNegativeNamed : Design → Pair → BindFault → Type 0
IsNegativeNamed d pair (UnknownInstance name) = ⊥
IsNegativeNamed d pair (WrongCell name) = ⊥
IsNegativeNamed d pair (NotALeaf name) = ⊥
IsNegativeNamed d pair (UnknownPin name) = ⊥
IsNegativeNamed d pair (NotOneNet from to) = ⊥
IsNegativeNamed d pair (MixedEdge name) = ⊥
IsNegativeNamed d pair (Latch name) = ⊥
IsNegativeNamed d pair (NegativeDelay from to) = (from ≡ pin_name d 0 pair.from.0) × (to ≡ pin_name d 0 pair.to.0)
IsNegativeNamed d pair (NegativeRest to) = ⊥
IsNegativeNamed d pair NoMemory = Unit {0}

abbrev pub IsPairsAnswer : Design → Entries → Result PairTable BindFault → Type 0
IsPairsAnswer d e (Ok table) = IsPairTable d e.throughs e.setups table × (negative_pair table.pairs ≡ None)
IsPairsAnswer d e (Err fault) = IsPairRefusal d e fault

-- the refusal of a wire, or want of memory
abbrev pub IsWireRefusal : Design → List Along → BindFault → Type 0
IsWireRefusal d alongs (UnknownInstance name) = ⊥
IsWireRefusal d alongs (WrongCell name) = ⊥
IsWireRefusal d alongs (NotALeaf name) = ⊥
IsWireRefusal d alongs (UnknownPin name) = ⊥
IsWireRefusal d alongs (NotOneNet from to) = ⊥
IsWireRefusal d alongs (MixedEdge name) = ⊥
IsWireRefusal d alongs (Latch name) = ⊥
IsWireRefusal d alongs (NegativeDelay from to) = ⊥
IsWireRefusal d alongs (NegativeRest to) = IsNegativeWire d alongs to
IsWireRefusal d alongs NoMemory = Unit {0}

-- the delays of the wires, of which no rest is negative
pub record AreWires (d : Design) (alongs : List Along) (numbers : List ℤ) : Type 0 where
  pub delays : AreWireDelays d alongs numbers
  pub rests : HaveRoom d alongs numbers

abbrev pub IsWiresAnswer : Design → List Along → Result (List ℤ) BindFault → Type 0
IsWiresAnswer d alongs (Ok numbers) = AreWires d alongs numbers
IsWiresAnswer d alongs (Err fault) = IsWireRefusal d alongs fault

-- the registers are accepted, and the entries give this timing
pub record IsMade (d : Design) (e : Entries) (t : Timing) : Type 0 where
  pub registers : refusal_of d e ≡ None
  pub timing : IsTiming d e t
  pub delays : negative_pair t.pairs ≡ None
  pub rests : HaveRoom d e.alongs t.wires

-- what refuses the entries
abbrev pub IsEntriesRefusal : Design → Entries → BindFault → Type 0
IsEntriesRefusal d e (UnknownInstance name) = ⊥
IsEntriesRefusal d e (WrongCell name) = ⊥
IsEntriesRefusal d e (NotALeaf name) = ⊥
IsEntriesRefusal d e (UnknownPin name) = ⊥
IsEntriesRefusal d e (NotOneNet from to) = ⊥
IsEntriesRefusal d e (MixedEdge name) = refusal_of d e ≡ Some (MixedEdge name)
IsEntriesRefusal d e (Latch name) = refusal_of d e ≡ Some (Latch name)
IsEntriesRefusal d e (NegativeDelay from to) = (refusal_of d e ≡ None) × IsNegativePair d e from to
IsEntriesRefusal d e (NegativeRest to) = (refusal_of d e ≡ None) × (HavePairsRoom d e × IsNegativeWire d e.alongs to)
IsEntriesRefusal d e NoMemory = Unit {0}

abbrev pub IsTimingAnswer : Design → Entries → Result Timing BindFault → Type 0
IsTimingAnswer d e (Ok t) = IsMade d e t
IsTimingAnswer d e (Err fault) = IsEntriesRefusal d e fault
