use Rattle.std.proofs.Common.{◌≡◌, map, take}
use Rattle.verilog_reader.specs.Modules.{port_of, undirected, earlier, earliest}
use Rattle.verilog_reader.specs.Tables.{known, seen, declared_by}
use Rattle.verilog_reader.proofs.assembly.made_ports.Given as goal

-- the ports so far are made
abbrev pub invariant-loop-port : goal.invariant-loop-port
invariant-loop-port l = record {
  ports : l.ports.items ≡ map (port_of (declared_by (known l.table))) (take l.port-index l.header);
  fault : seen l.fault ≡ earlier (seen l.fn.first_fault) (earliest (undirected (declared_by (known l.table)) (take l.port-index l.header)));
}
