use Rattle.std.proofs.Common.{◌≡◌, ◌≤◌, ◌-◌, length}
use Rattle.tcl_words.specs.Scanning.{left, from_feed}
use Rattle.tcl_words.proofs.ends.feed_place.Given as goal

abbrev pub invariant-loop-character : goal.invariant-loop-character
invariant-loop-character l = record {
  same : from_feed (left l.text l.end) ≡ from_feed (left l.text l.at);
  from : l.at ≤ l.end;
  within : l.end ≤ length l.text;
}

abbrev pub decreases-loop-character : goal.decreases-loop-character
decreases-loop-character l = length l.text - l.end
