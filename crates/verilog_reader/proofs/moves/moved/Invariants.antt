use Rattle.std.proofs.Common.{◌≡◌}
use Rattle.std.specs.List.{flat_map}
use Rattle.verilog_reader.specs.Modules.{item_assigns, item_instances}
use Rattle.verilog_reader.proofs.moves.moved.Given as goal

-- what the items so far hold
abbrev pub invariant-loop-item : goal.invariant-loop-item
invariant-loop-item l = record {
  assigns : l.assigns.items ≡ flat_map item_assigns l.yielded;
  instances : l.instances.items ≡ flat_map item_instances l.yielded;
}
