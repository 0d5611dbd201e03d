use Rattle.std.proofs.Common.{◌≡◌, ◌≤◌, ◌-◌, length}
use Rattle.tcl_words.specs.Scanning.{left}
use Rattle.tcl_words.specs.Commands.{behind_gap}
use Rattle.tcl_words.proofs.ends.gap_end.Given as goal

abbrev pub invariant-loop-character : goal.invariant-loop-character
invariant-loop-character l = record {
  same : behind_gap l.scope (left l.text l.end) ≡ behind_gap l.scope (left l.text l.at);
  from : l.at ≤ l.end;
  within : l.end ≤ length l.text;
}

abbrev pub decreases-loop-character : goal.decreases-loop-character
decreases-loop-character l = length l.text - l.end
