use Rattle.std.proofs.Common.{length}
use Rattle.verilog_words.specs.Neighbours.{IsSought}
use Rattle.verilog_words.proofs.finder.first_left_out.Given as goal

abbrev pub invariant-loop-token : goal.invariant-loop-token
invariant-loop-token l = IsSought l.text l.tokens l.leaves l.rest l.before

abbrev pub decreases-loop-token : goal.decreases-loop-token
decreases-loop-token l = length l.rest
