use Rattle.std.proofs.Common.{take}
use Rattle.verilog_reader.specs.Tables.{known, seen}
use Rattle.verilog_reader.proofs.TableSteps.{ListsPorts}
use Rattle.verilog_reader.proofs.assembly.list_ports.Given as goal

-- the ports so far are listed
abbrev pub invariant-loop-port : goal.invariant-loop-port
invariant-loop-port l = ListsPorts (take l.port-index l.header) (known l.table) l.before (seen l.fault)
