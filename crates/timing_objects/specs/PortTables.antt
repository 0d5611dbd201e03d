-- The names of ports found by their two forms.
use Rattle.std.specs.Prelude.{◌≡◌, List, map}
use Rattle.bud_design.specs.declared.designs.Pin.{Pin}
use Rattle.text_tables.specs.Standings.{IsOf}
use Rattle.timing_objects.specs.PortNames.{ArePortNames}
use Rattle.timing_objects.specs.declared.port_names.PortName.{PortName}
use Rattle.timing_objects.specs.declared.port_tables.PortTable.{PortTable}

-- the table has these names, by their printed and by their plain forms
pub record IsTableOf (names : List PortName) (table : PortTable) : Type 0 where
  pub same : table.names ≡ names
  pub by_printed : IsOf (map (λ n. n.printed) names) table.printed
  pub by_plain : IsOf (map (λ n. n.plain) names) table.plain

-- a table of the names of the top's ports
pub record IsPortTable (pins : List Pin) (table : PortTable) : Type 0 where
  pub names : ArePortNames pins table.names
  pub tables : IsTableOf table.names table
