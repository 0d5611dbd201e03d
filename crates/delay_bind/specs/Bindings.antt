-- What a delay file says of a flat design: the delays of wires and pairs, checks and launch edges, or the first refusal.
use Rattle.std.specs.Prelude.{◌≡◌, ℕ, ℤ, pos, int_lt, List, ◌∷◌, ◌++◌, find, All, Option, Some, None, Result, Ok, Err}
use Rattle.bud_syntax.specs.declared.delays.SdfRow.{SdfRow}
use Rattle.bud_design.specs.declared.designs.Wire.{Wire}
use Rattle.bud_design.specs.declared.timings.Pair.{Pair}
use Rattle.bud_design.specs.declared.timings.Timing.{Timing}
use Rattle.bud_design.specs.Designs.{Design, pin_name}
use Rattle.bud_design.specs.Lists.{Lists}
use Rattle.bud_design.specs.Orders.{pair_before, check_before, edge_pin_before}
use Rattle.net_delays.specs.declared.alongs.Along.{Along}
use Rattle.net_delays.specs.Nets.{AreWireDelays, HasNegativeRest, HaveRoom}
use Rattle.registers.specs.Registers.{IsLaunchEdge, IsCheck, IsPair, IsLeftOutCount}
use Rattle.delay_bind.specs.Rows.{IsAcceptedRow, IsRowFault, IsNetFault}
use Rattle.delay_bind.specs.Entries.{Entries, entries_of, refusal_of}
use Rattle.delay_bind.specs.declared.faults.BindFault.{BindFault}
use Rattle.delay_bind.specs.declared.faults.BindFault.TheVariants.{UnknownInstance, WrongCell, NotALeaf, UnknownPin, NotOneNet, MixedEdge, Latch, NegativeDelay, NegativeRest, NoMemory}

abbrev pub ArePairs : Design → Entries → List Pair → Type 0
ArePairs d e pairs = Lists pair_before (IsPair d e.throughs e.setups) pairs

abbrev pub negative_pair : List Pair → Option Pair
negative_pair pairs = find (λ x. int_lt x.value (pos 0)) pairs

-- the delays, checks and launch edges that the entries give
pub record IsTiming (d : Design) (e : Entries) (t : Timing) : Type 0 where
  pub wires : AreWireDelays d e.alongs t.wires
  pub pairs : ArePairs d e t.pairs
  pub checks : Lists check_before (IsCheck e.setups) t.checks
  pub edges : Lists edge_pin_before (IsLaunchEdge e.throughs e.setups) t.edges
  pub left_out : IsLeftOutCount d e.throughs e.setups t.left_out

-- the rows and the registers are accepted
pub record AreAccepted (d : Design) (rows : List SdfRow) : Type 0 where
  pub rows_are : All (IsAcceptedRow d) rows
  pub registers : refusal_of d (entries_of d rows) ≡ None

pub record IsBound (d : Design) (rows : List SdfRow) (t : Timing) : Type 0 where
  pub accepted : AreAccepted d rows
  pub timing : IsTiming d (entries_of d rows) t
  pub delays : negative_pair t.pairs ≡ None
  pub rests : HaveRoom d (entries_of d rows).alongs t.wires

pub record IsRegisterFault (d : Design) (rows : List SdfRow) (fault : BindFault) : Type 0 where
  pub rows_are : All (IsAcceptedRow d) rows
  pub refused : refusal_of d (entries_of d rows) ≡ Some fault

-- the first pair whose value is negative
pub record IsNegativePair (d : Design) (e : Entries) (from to : List ℕ) : Type 0 where
  pub pairs : List Pair
  pub are_pairs : ArePairs d e pairs
  pub pair : Pair
  pub first : negative_pair pairs ≡ Some pair
  pub from_is : from ≡ pin_name d 0 pair.from.0
  pub to_is : to ≡ pin_name d 0 pair.to.0

-- the first wire, by last pin, of which a rest is negative
pub record IsNegativeWire (d : Design) (alongs : List Along) (to : List ℕ) : Type 0 where
  pub numbers : List ℤ
  pub are_delays : AreWireDelays d alongs numbers
  pub before : List Wire
  pub wire : Wire
  pub behind : List Wire
  pub stands : d.wires ≡ before ++ wire ∷ behind
  pub first : All (λ w. HasNegativeRest d alongs numbers w.to.0 → ⊥) before
  pub negative : HasNegativeRest d alongs numbers wire.to.0
  pub to_is : to ≡ pin_name d 0 wire.to.0

-- the pairs, none of which has a negative value
pub record HavePairsRoom (d : Design) (e : Entries) : Type 0 where
  pub pairs : List Pair
  pub are_pairs : ArePairs d e pairs
  pub delays : negative_pair pairs ≡ None

pub record IsNegativeDelay (d : Design) (rows : List SdfRow) (from to : List ℕ) : Type 0 where
  pub accepted : AreAccepted d rows
  pub pair : IsNegativePair d (entries_of d rows) from to

pub record IsNegativeRest (d : Design) (rows : List SdfRow) (to : List ℕ) : Type 0 where
  pub accepted : AreAccepted d rows
  pub pairs : HavePairsRoom d (entries_of d rows)
  pub wire : IsNegativeWire d (entries_of d rows).alongs to

-- what each refusal says
abbrev pub IsRefusal : Design → List SdfRow → BindFault → Type 0
IsRefusal d rows (UnknownInstance name) = IsRowFault d rows (UnknownInstance name)
IsRefusal d rows (WrongCell name) = IsRowFault d rows (WrongCell name)
IsRefusal d rows (NotALeaf name) = IsRowFault d rows (NotALeaf name)
IsRefusal d rows (UnknownPin name) = IsRowFault d rows (UnknownPin name)
IsRefusal d rows (NotOneNet from to) = IsNetFault d rows from to
IsRefusal d rows (MixedEdge name) = IsRegisterFault d rows (MixedEdge name)
IsRefusal d rows (Latch name) = IsRegisterFault d rows (Latch name)
IsRefusal d rows (NegativeDelay from to) = IsNegativeDelay d rows from to
IsRefusal d rows (NegativeRest to) = IsNegativeRest d rows to
IsRefusal d rows NoMemory = Unit {0}

-- what each answer of `bind` says
abbrev pub IsBindAnswer : Design → List SdfRow → Result Timing BindFault → Type 0
IsBindAnswer d rows (Ok t) = IsBound d rows t
IsBindAnswer d rows (Err fault) = IsRefusal d rows fault
