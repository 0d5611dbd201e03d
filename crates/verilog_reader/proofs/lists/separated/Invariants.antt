use Rattle.std.proofs.Common.{◌≤◌, length}
use Rattle.verilog_reader.specs.Readings.{left_of}
use Rattle.verilog_reader.proofs.ListSteps.{IsListing}
use Rattle.verilog_reader.proofs.lists.separated.Given as goal

-- the parts so far and those of what is left are all
abbrev pub invariant-loop-alloc : goal.invariant-loop-alloc
invariant-loop-alloc g l = record {
  listing : IsListing g.P.Part.production (left_of l.fn.left) l.values.items (left_of l.rest);
  order : length l.rest.tokens.now ≤ length l.fn.left.tokens.now;
}

abbrev pub decreases-loop-alloc : goal.decreases-loop-alloc
decreases-loop-alloc g l = length l.rest.tokens.now
