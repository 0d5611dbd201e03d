use Rattle.std.proofs.Common.{◌≡◌, map}
use Rattle.verilog_reader.specs.Modules.{instance_of}
use Rattle.verilog_reader.proofs.moves.made_instances.Given as goal

-- the instances of the cells so far
abbrev pub invariant-loop-cell : goal.invariant-loop-cell
invariant-loop-cell l = l.instances.items ≡ map (instance_of l.module_name) l.yielded
