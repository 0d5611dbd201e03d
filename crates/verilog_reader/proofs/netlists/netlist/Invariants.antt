use Rattle.std.proofs.Common.{length}
use Rattle.verilog_reader.specs.Readings.{left_of}
use Rattle.verilog_reader.proofs.NetlistSteps.{IsReading}
use Rattle.verilog_reader.proofs.netlists.netlist.Given as goal

-- the parts so far and those of what is left are all
abbrev pub invariant-loop-alloc : goal.invariant-loop-alloc
invariant-loop-alloc l = IsReading l.text l.tokens l.modules.items l.fault (left_of l.rest)

abbrev pub decreases-loop-alloc : goal.decreases-loop-alloc
decreases-loop-alloc l = length l.rest.tokens.now
