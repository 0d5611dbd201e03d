-- The entries of a delay file, by the pins that they name in a flat design, and the first refusal of a register.
use Rattle.std.specs.Prelude.{List, filter_map, Option, Some, None, option_and_then}
use Rattle.std.specs.Option.{option_map}
use Rattle.bud_syntax.specs.declared.delays.SdfRow.{SdfRow}
use Rattle.bud_syntax.specs.declared.delays.SdfKind.{SdfKind}
use Rattle.bud_syntax.specs.declared.delays.SdfKind.TheVariants.{Cell, Delay, Wire, Setup as SetupRow}
use Rattle.bud_design.specs.Designs.{Design, pin_name, place_name}
use Rattle.net_delays.specs.declared.alongs.Along.{Along}
use Rattle.registers.specs.Registers.{register_fault}
use Rattle.registers.specs.declared.entries.Through.{Through}
use Rattle.registers.specs.declared.entries.Setup.{Setup}
use Rattle.registers.specs.declared.faults.RegisterFault.{RegisterFault}
use Rattle.registers.specs.declared.faults.RegisterFault.TheVariants.{MixedEdge as MixedPin, Latch as LatchAt}
use Rattle.delay_bind.specs.Rows.{row_pin}
use Rattle.delay_bind.specs.declared.faults.BindFault.{BindFault}
use Rattle.delay_bind.specs.declared.faults.BindFault.TheVariants.{MixedEdge, Latch}

infixl 10 ◌>>=◌
abbrev pub ◌>>=◌ : {A B : Type 0} → Option A → (A → Option B) → Option B
o >>= f = option_and_then f o

abbrev pub through_of : Design → SdfRow → SdfKind → Option Through
through_of d row Cell = None
through_of d row (Delay from edge to value) = do
  a ← row_pin d row from
  b ← row_pin d row to
  Some (record { from = record { 0 = a }; edge = edge; to = record { 0 = b }; value = value })
through_of d row (Wire from to value) = None
through_of d row (SetupRow pin clock edge value) = None

abbrev pub setup_of : Design → SdfRow → SdfKind → Option Setup
setup_of d row Cell = None
setup_of d row (Delay from edge to value) = None
setup_of d row (Wire from to value) = None
setup_of d row (SetupRow pin clock edge value) = do
  a ← row_pin d row pin
  b ← row_pin d row clock
  Some (record { pin = record { 0 = a }; clock = record { 0 = b }; edge = edge; value = value })

abbrev pub along_of : Design → SdfRow → SdfKind → Option Along
along_of d row Cell = None
along_of d row (Delay from edge to value) = None
along_of d row (Wire from to value) = do
  a ← row_pin d row from
  b ← row_pin d row to
  Some (record { from = record { 0 = a }; to = record { 0 = b }; value = value })
along_of d row (SetupRow pin clock edge value) = None

-- the entries of a delay file, in file order
pub record Entries : Type 0 where
  pub throughs : List Through
  pub setups : List Setup
  pub alongs : List Along

abbrev pub entries_of : Design → List SdfRow → Entries
entries_of d rows = record {
  throughs = filter_map (λ row. through_of d row row.kind) rows;
  setups = filter_map (λ row. setup_of d row row.kind) rows;
  alongs = filter_map (λ row. along_of d row row.kind) rows;
}

-- a refusal of a register, by names
abbrev pub named_fault : Design → RegisterFault → BindFault
named_fault d (MixedPin v) = MixedEdge (pin_name d 0 v.0)
named_fault d (LatchAt p) = Latch (place_name d.places 0 p)

abbrev pub refusal_of : Design → Entries → Option BindFault
refusal_of d e = option_map (named_fault d) (register_fault d e.throughs e.setups)
