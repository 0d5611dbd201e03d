use Rattle.std.proofs.Common.{◌≡◌, ◌≤◌, ◌-◌, drop, length}
use Rattle.tcl_words.specs.Scanning.{from_gap}
use Rattle.tcl_words.specs.Lists.{list_characters}
use Rattle.tcl_words.proofs.lists.element_end.Given as goal

abbrev pub invariant-loop-character : goal.invariant-loop-character
invariant-loop-character l = record {
  same : from_gap (list_characters l.kind (drop l.end l.text)) ≡ from_gap (list_characters l.kind (drop l.at l.text));
  from : l.at ≤ l.end;
  within : l.end ≤ length l.text;
}

abbrev pub decreases-loop-character : goal.decreases-loop-character
decreases-loop-character l = length l.text - l.end
