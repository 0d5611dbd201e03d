use Rattle.std.proofs.Common.{Ok, take}
use Rattle.std.specs.List.{flat_map}
use Rattle.verilog_reader.specs.Modules.{item_nets}
use Rattle.verilog_reader.specs.Tables.{known, AddsNets}
use Rattle.verilog_reader.proofs.assembly.add_all_nets.Given as goal

-- the nets of the items so far are added
abbrev pub invariant-loop-item : goal.invariant-loop-item
invariant-loop-item l = AddsNets (known l.table) (flat_map item_nets (take l.item-index l.items)) l.fn.nets.items l.nets.items (Ok tt)
