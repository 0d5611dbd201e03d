use Rattle.std.proofs.Common.{◌≡◌, ◌+◌, ◌<◌, ◌≤◌, length, false}
use Rattle.verilog_reader.specs.Joints.{joint_of}
use Rattle.verilog_reader.specs.Readings.{left_of}
use Rattle.verilog_reader.proofs.JoiningSteps.{IsJoining}
use Rattle.verilog_reader.proofs.joining.expr.Given as goal

-- the pieces so far and those of what is left are all
abbrev pub invariant-loop-alloc : goal.invariant-loop-alloc
invariant-loop-alloc l = record {
  joining : IsJoining (left_of l.fn.left) l.pieces.items (joint_of l.joint);
  depth : l.joint.depth + length l.joint.rest.tokens.now ≤ length l.fn.left.tokens.now;
  order : length l.joint.rest.tokens.now ≤ length l.fn.left.tokens.now;
  begun : l.joint.wanted ≡ false → length l.joint.rest.tokens.now < length l.fn.left.tokens.now;
}

abbrev pub decreases-loop-alloc : goal.decreases-loop-alloc
decreases-loop-alloc l = length l.joint.rest.tokens.now
