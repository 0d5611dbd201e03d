-- What a header and a body say of ports and nets.
use Rattle.std.specs.Prelude.{◌&&◌, not, List, [], ◌++◌, map, filter, Option, Some, None, Result, Ok, Err, if◌then◌else◌}
use Rattle.std.specs.List.{list_all, flat_map}
use Rattle.bud_syntax.specs.declared.modules.NetDecl.{NetDecl}
use Rattle.verilog_reader.specs.Modules.{Declaration, header_declarations, item_declarations, item_nets, is_listed, first_declared, listed_again, declared_again, undirected, earliest, port_of, repeats_port, agrees}
use Rattle.verilog_reader.specs.declared.readings.Stop.{Stop}
use Rattle.verilog_reader.specs.declared.trees.HeaderPort.{HeaderPort}
use Rattle.verilog_reader.specs.declared.trees.Item.{Item}
use Rattle.verilog_reader.specs.declared.surveys.Survey.{Survey}

abbrev pub all_declarations : List HeaderPort → List Item → List Declaration
all_declarations header items = header_declarations None header ++ flat_map item_declarations items

abbrev pub surveyed : List HeaderPort → List Item → Option Survey
surveyed header items =
    if list_all (λ d. is_listed header d.named.name) (flat_map item_declarations items)
    && list_all (agrees (is_listed header) (first_declared (all_declarations header items))) (flat_map item_nets items)
    then Some (record {
      ports = map (port_of (first_declared (all_declarations header items))) header;
      nets = filter (λ n. not (repeats_port (is_listed header) n)) (flat_map item_nets items);
      fault =
          earliest (
          listed_again [] header
          ++ (declared_again (header_declarations None header) (flat_map item_declarations items)
          ++ undirected (first_declared (all_declarations header items)) header));
    })
    else None

abbrev pub nets_made : Result (List NetDecl) Stop → List NetDecl
nets_made (Ok nets) = nets
nets_made (Err _) = []

abbrev pub unit_of : Result (List NetDecl) Stop → Result (Unit {0}) Stop
unit_of (Ok _) = Ok tt
unit_of (Err stop) = Err stop
