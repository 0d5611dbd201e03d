use Rattle.std.proofs.Common.{◌≡◌, ◌≤◌, ◌-◌, length}
use Rattle.tcl_words.specs.Scanning.{left, bare_rest}
use Rattle.tcl_words.proofs.ends.bare_end.Given as goal

abbrev pub invariant-loop-character : goal.invariant-loop-character
invariant-loop-character l = record {
  same : bare_rest l.scope l.stage (left l.text l.end) ≡ bare_rest l.scope l.fn.begun (left l.text l.at);
  from : l.at ≤ l.end;
  within : l.end ≤ length l.text;
}

abbrev pub decreases-loop-character : goal.decreases-loop-character
decreases-loop-character l = length l.text - l.end
