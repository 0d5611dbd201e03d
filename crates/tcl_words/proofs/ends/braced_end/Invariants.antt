use Rattle.std.proofs.Common.{◌≡◌, ◌≤◌, ◌-◌, length}
use Rattle.tcl_words.specs.Scanning.{left, braced_rest}
use Rattle.tcl_words.proofs.ends.braced_end.Given as goal

abbrev pub invariant-loop-character : goal.invariant-loop-character
invariant-loop-character l = record {
  same : braced_rest l.depth (left l.text l.end) ≡ braced_rest 0 (left l.text l.at);
  from : l.at ≤ l.end;
  within : l.end ≤ length l.text;
  depth : l.depth ≤ l.end;
}

abbrev pub decreases-loop-character : goal.decreases-loop-character
decreases-loop-character l = length l.text - l.end
