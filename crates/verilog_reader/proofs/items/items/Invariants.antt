use Rattle.std.proofs.Common.{◌≤◌, length}
use Rattle.verilog_reader.specs.Left.{size}
use Rattle.verilog_reader.specs.Items.{ends_module, body_item, items}
use Rattle.verilog_reader.specs.Readings.{left_of}
use Rattle.verilog_reader.specs.Repeats.{GoesOn}
use Rattle.verilog_reader.proofs.items.items.Given as goal

-- the items so far and those of what is left are all
abbrev pub invariant-loop-alloc : goal.invariant-loop-alloc
invariant-loop-alloc l = record {
  goes_on : GoesOn ends_module body_item size l.found.items (left_of l.rest) (items (left_of l.fn.left));
  order : length l.rest.tokens.now ≤ length l.fn.left.tokens.now;
}

abbrev pub decreases-loop-alloc : goal.decreases-loop-alloc
decreases-loop-alloc l = length l.rest.tokens.now
