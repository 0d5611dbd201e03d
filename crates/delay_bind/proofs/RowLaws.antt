-- Rows of wires: their pins are on one net, or the row is refused.
use Rattle.std.specs.Option.{option_and_then}
use Rattle.std.proofs.Common.{◌≡◌, ℕ, Bool, true, false, List, length, Option, Some, None, Err, ℤ, refl, sym, ap, subst, ◌∙◌, true≢false}
use Rattle.std.proofs.lemmas.Option.{same_Some, none-some, option_and_then_some}
use Rattle.bud_syntax.specs.declared.delays.SdfRow.{SdfRow}
use Rattle.bud_syntax.specs.declared.delays.SdfKind.{SdfKind}
use Rattle.bud_syntax.specs.declared.delays.SdfKind.TheVariants.{Cell, Delay, Wire, Setup as SetupRow}
use Rattle.bud_design.specs.Designs.{Design, driver_of}
use Rattle.bud_design.specs.DesignRules.{IsDesign}
use Rattle.net_delays.specs.Drives.{AreJoined}
use Rattle.net_delays.specs.Nets.{AreOneNet}
use Rattle.net_delays.specs.declared.alongs.Along.{Along}
use Rattle.net_delays.proofs.NetLaws.{one_net, joined_net}
use Rattle.net_delays.proofs.NetAnswers.{same_joined}
use Rattle.delay_bind.specs.Rows.{row_pin, name_fault, AreJoined as ArePinsJoined, IsJoined, IsAcceptedRow}
use Rattle.delay_bind.specs.Entries.{along_of}
use Rattle.delay_bind.specs.RowAnswers.{IsNoWire, IsEntryOf, IsRowAnswer, IsWireRow, IsNetNamed, IsApartFault, IsEntryWithin, AreEntryJoined}
use Rattle.delay_bind.specs.declared.faults.BindFault.{BindFault}
use Rattle.delay_bind.specs.declared.faults.BindFault.TheVariants.{UnknownInstance, WrongCell, NotALeaf, UnknownPin, NotOneNet, MixedEdge, Latch, NegativeDelay, NegativeRest, NoMemory}
use Rattle.delay_bind.specs.declared.rows.Entry.{Entry}
use Rattle.delay_bind.specs.declared.rows.Entry.TheVariants.{Nothing, Leaf, Checked, Net}

pub entry_within : (d : Design) (row : SdfRow) (e : Entry) (n : ℕ) → IsEntryOf d row e → n ≡ length d.pins → IsEntryWithin n e
entry_within d row Nothing n is size = tt
entry_within d row (Leaf t) n is size = tt
entry_within d row (Checked s) n is size = tt
entry_within d row (Net x) n is size = rw size is.1

no_wire_joined : (d : Design) (row : SdfRow) (kind : SdfKind) → IsNoWire kind → IsJoined d row kind
no_wire_joined d row Cell quiet = tt
no_wire_joined d row (Delay from edge to value) quiet = tt
no_wire_joined d row (Wire from to value) quiet = absurd quiet
no_wire_joined d row (SetupRow pin clock edge value) quiet = tt

-- the pins of a row of wires
pub record AreNetPins (d : Design) (row : SdfRow) (from to : List ℕ) (x : Along) : Type 0 where
  pub from_is : row_pin d row from ≡ Some x.from.0
  pub to_is : row_pin d row to ≡ Some x.to.0

net_pins : (d : Design) (row : SdfRow) (from to : List ℕ) (value : ℤ) (x : Along) → along_of d row (Wire from to value) ≡ Some x → AreNetPins d row from to x
net_pins d row from to value x is =
    option_and_then_some (λ a. option_and_then (λ b. Some (record { from = record { 0 = a }; to = record { 0 = b }; value = value })) (row_pin d row to)) (row_pin d row from) x is (λ a first rest.
    option_and_then_some (λ b. Some (record { from = record { 0 = a }; to = record { 0 = b }; value = value })) (row_pin d row to) x rest (λ b second whole.
    let same = same_Some (record { from = record { 0 = a }; to = record { 0 = b }; value = value }) x whole in
    record { from_is = first ∙ ap (λ (y : Along). Some y.from.0) same; to_is = second ∙ ap (λ (y : Along). Some y.to.0) same }))

net_joined : (d : Design) (row : SdfRow) (kind : SdfKind) (x : Along) → along_of d row kind ≡ Some x → AreOneNet d x.from.0 x.to.0 → IsJoined d row kind
net_joined d row Cell x is net = tt
net_joined d row (Delay from edge to value) x is net = tt
net_joined d row (Wire from to value) x is net = let pins = net_pins d row from to value x is in rw (pins.from_is, pins.to_is) net
net_joined d row (SetupRow pin clock edge value) x is net = tt

module _ (d : Design) (design : IsDesign d) (drive : ℕ → Option ℕ) (same : (v : ℕ) → drive v ≡ driver_of d.wires v) where
  on_net : (a b : ℕ) → AreJoined drive a b → AreOneNet d a b
  on_net a b joined = one_net d design a b (same_joined drive (driver_of d.wires) same a b joined)

  -- pins on one net are joined
  pub off_net : (a b : ℕ) → AreOneNet d a b → AreJoined drive a b
  off_net a b net = same_joined (driver_of d.wires) drive (λ v. sym (same v)) a b (joined_net d design a b net)

  joined_by : (row : SdfRow) (e : Entry) (b : Bool) → IsEntryOf d row e → AreEntryJoined drive e b → b ≡ true → IsJoined d row row.kind
  joined_by row Nothing b is joined holds = no_wire_joined d row row.kind is.1
  joined_by row (Leaf t) b is joined holds = no_wire_joined d row row.kind is.2
  joined_by row (Checked s) b is joined holds = no_wire_joined d row row.kind is.2
  joined_by row (Net x) b is joined holds = net_joined d row row.kind x is.0.along_is (on_net x.from.0 x.to.0 (joined.0 holds))

  -- a row whose names and net are accepted
  pub IsAcceptedRow-joined : (row : SdfRow) (e : Entry) (b : Bool) → name_fault d row ≡ None → IsEntryOf d row e → AreEntryJoined drive e b → b ≡ true → IsAcceptedRow d row
  IsAcceptedRow-joined row e b named is joined holds = record { named = named; joined = joined_by row e b is joined holds }

  wire_of : (row : SdfRow) (kind : SdfKind) (x : Along) → along_of d row kind ≡ Some x → IsWireRow kind
  wire_of row Cell x is = absurd (none-some x is)
  wire_of row (Delay from edge to value) x is = absurd (none-some x is)
  wire_of row (Wire from to value) x is = tt
  wire_of row (SetupRow pin clock edge value) x is = absurd (none-some x is)

  -- only a row of wires is refused for its net
  pub wire_row : (row : SdfRow) (e : Entry) (b : Bool) → IsEntryOf d row e → AreEntryJoined drive e b → b ≡ false → IsWireRow row.kind
  wire_row row Nothing b is joined fails = absurd (true≢false (sym joined ∙ fails))
  wire_row row (Leaf t) b is joined fails = absurd (true≢false (sym joined ∙ fails))
  wire_row row (Checked s) b is joined fails = absurd (true≢false (sym joined ∙ fails))
  wire_row row (Net x) b is joined fails = wire_of row row.kind x is.0.along_is

  named_by : (row : SdfRow) (from to : List ℕ) (value : ℤ) (x : Along) (fault : BindFault) → row.kind ≡ Wire from to value → along_of d row (Wire from to value) ≡ Some x → name_fault d row ≡ None
      → (AreJoined drive x.from.0 x.to.0 → ⊥) → IsNetNamed row from to fault → IsRowAnswer d row (Err fault)
  named_by row from to value x (NotOneNet a b) kind is named apart names = record {
    from_name = from;
    to_name = to;
    apart = record {
      named = named;
      value = value;
      wire = kind;
      apart = λ joined.
          let pins = net_pins d row from to value x is in
          let net : AreOneNet d x.from.0 x.to.0 = subst (λ o. ArePinsJoined d (Some x.from.0) o) pins.to_is (subst (λ o. ArePinsJoined d o (row_pin d row to)) pins.from_is joined) in
          apart (off_net x.from.0 x.to.0 net);
    };
    from_is = names.0;
    to_is = names.1;
  }
  named_by row from to value x NoMemory kind is named apart names = tt
  named_by row from to value x (UnknownInstance name) kind is named apart names = absurd names
  named_by row from to value x (WrongCell name) kind is named apart names = absurd names
  named_by row from to value x (NotALeaf name) kind is named apart names = absurd names
  named_by row from to value x (UnknownPin name) kind is named apart names = absurd names
  named_by row from to value x (MixedEdge name) kind is named apart names = absurd names
  named_by row from to value x (Latch name) kind is named apart names = absurd names
  named_by row from to value x (NegativeDelay a b) kind is named apart names = absurd names
  named_by row from to value x (NegativeRest name) kind is named apart names = absurd names

  apart_by : (row : SdfRow) (kind : SdfKind) (x : Along) (fault : BindFault) → row.kind ≡ kind → along_of d row kind ≡ Some x → name_fault d row ≡ None
      → (AreJoined drive x.from.0 x.to.0 → ⊥) → IsApartFault row kind fault → IsRowAnswer d row (Err fault)
  apart_by row Cell x fault kind is named apart names = absurd names
  apart_by row (Delay from edge to value) x fault kind is named apart names = absurd names
  apart_by row (Wire from to value) x fault kind is named apart names = named_by row from to value x fault kind is named apart names
  apart_by row (SetupRow pin clock edge value) x fault kind is named apart names = absurd names

  -- the refusal for a net
  pub IsRowAnswer-apart : (row : SdfRow) (e : Entry) (b : Bool) (fault : BindFault) → name_fault d row ≡ None → IsEntryOf d row e → AreEntryJoined drive e b → b ≡ false → IsApartFault row row.kind fault
      → IsRowAnswer d row (Err fault)
  IsRowAnswer-apart row Nothing b fault named is joined fails names = absurd (true≢false (sym joined ∙ fails))
  IsRowAnswer-apart row (Leaf t) b fault named is joined fails names = absurd (true≢false (sym joined ∙ fails))
  IsRowAnswer-apart row (Checked s) b fault named is joined fails names = absurd (true≢false (sym joined ∙ fails))
  IsRowAnswer-apart row (Net x) b fault named is joined fails names =
      apart_by row row.kind x fault refl is.0.along_is named (λ net. true≢false (sym (joined.1 net) ∙ fails)) names
