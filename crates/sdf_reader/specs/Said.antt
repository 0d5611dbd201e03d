-- What entries say, before their names are put into printed form.
use Rattle.std.specs.Prelude.{ℕ, List, Option}
use Rattle.bud_syntax.specs.declared.edges.Edge.{Edge}
use Rattle.bud_syntax.specs.declared.delays.SdfKind.{SdfKind}
use Rattle.bud_syntax.specs.declared.delays.SdfKind.TheVariants.{Cell, Delay, Wire, Setup}
use Rattle.sdf_reader.specs.Names.{printed}
use Rattle.sdf_reader.specs.declared.said.Port.{Port}
use Rattle.sdf_reader.specs.declared.said.Said.{Said}
use Rattle.sdf_reader.specs.declared.said.Said.TheVariants.{Cell as CellSaid, Delay as DelaySaid, Wire as WireSaid, Setup as SetupSaid}

abbrev pub port_of : ℕ → Port → Option Edge × List ℕ
port_of divider port = (port.edge, printed divider port.name.now)

abbrev pub kind_of : ℕ → Said → SdfKind
kind_of divider CellSaid = Cell
kind_of divider (DelaySaid from edge to value) = Delay (printed divider from.now) edge (printed divider to.now) value
kind_of divider (WireSaid from to value) = Wire (printed divider from.now) (printed divider to.now) value
kind_of divider (SetupSaid pin clock edge value) = Setup (printed divider pin.now) (printed divider clock.now) edge value
