use Rattle.std.proofs.Common.{List, Ok, take}
use Rattle.std.specs.List.{flat_map}
use Rattle.verilog_reader.specs.Modules.{Declaration, item_declarations}
use Rattle.verilog_reader.specs.Tables.{known, seen, IsTable, IsDeclaring}
use Rattle.verilog_reader.specs.declared.trees.HeaderPort.{HeaderPort}
use Rattle.verilog_reader.proofs.assembly.declare_items.Given as goal

-- the declarations of the items so far are taken in
abbrev pub invariant-loop-item : goal.invariant-loop-item
invariant-loop-item l = (listed : List HeaderPort) (before : List Declaration) → IsTable listed before (known l.fn.table)
    → IsDeclaring listed before (flat_map item_declarations (take l.item-index l.items)) (known l.table) (seen l.fn.first_fault) (Ok l.fault)
