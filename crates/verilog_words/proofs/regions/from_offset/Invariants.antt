use Rattle.std.proofs.Common.{◌≡◌, drop}
use Rattle.verilog_words.specs.Outside.{from_offset}
use Rattle.verilog_words.proofs.regions.from_offset.Given as goal

abbrev pub invariant-loop-i : goal.invariant-loop-i
invariant-loop-i l = from_offset l.at l.tokens ≡ from_offset l.at (drop l.i l.tokens)
