use Rattle.std.proofs.Common.{List, Ok, take}
use Rattle.verilog_reader.specs.Modules.{Declaration, declarations_in}
use Rattle.verilog_reader.specs.Tables.{known, seen, IsTable, IsDeclaring}
use Rattle.verilog_reader.specs.declared.trees.HeaderPort.{HeaderPort}
use Rattle.verilog_reader.proofs.assembly.declare_names.Given as goal

-- the names so far are declared
abbrev pub invariant-loop-named : goal.invariant-loop-named
invariant-loop-named l = (listed : List HeaderPort) (before : List Declaration) → IsTable listed before (known l.fn.table)
    → IsDeclaring listed before (declarations_in l.declared (take l.named-index l.names)) (known l.table) (seen l.fn.first_fault) (Ok l.fault)
