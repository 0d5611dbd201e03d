use Rattle.std.proofs.Common.{Ok, take, ◌∷◌, []}
use Rattle.std.specs.List.{flat_map}
use Rattle.verilog_reader.specs.Modules.{nets_in}
use Rattle.verilog_reader.specs.Tables.{known, AddsNets}
use Rattle.verilog_reader.proofs.assembly.add_nets.Given as goal

-- the nets of the names so far are added
abbrev pub invariant-loop-named : goal.invariant-loop-named
invariant-loop-named l = AddsNets (known l.table) (flat_map (λ n. nets_in l.constant l.range (n ∷ [])) (take l.named-index l.names)) l.fn.nets.items l.nets.items (Ok tt)
