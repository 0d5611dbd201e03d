use Rattle.std.proofs.Common.{◌≡◌, ℕ, ◌<◌, get_or, true}
use Rattle.verilog_lex.specs.Classes.{passes}
use Rattle.verilog_lex.proofs.classes.run_length.Given as goal

abbrev pub invariant-loop-i : goal.invariant-loop-i
invariant-loop-i l = (k : ℕ) → k < l.i → passes l.class (get_or l.bytes k 0) ≡ true
