use Rattle.std.proofs.Common.{◌≡◌, ℕ, ◌<◌, get_or, true}
use Rattle.verilog_lex.specs.Fronts.{is_of_line}
use Rattle.verilog_words.proofs.regions.end_of_line.Given as goal

abbrev pub invariant-loop-i : goal.invariant-loop-i
invariant-loop-i l = (k : ℕ) → k < l.i → is_of_line (get_or l.rest k 0) ≡ true
