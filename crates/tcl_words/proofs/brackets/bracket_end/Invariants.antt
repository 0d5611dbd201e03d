use Rattle.std.proofs.Common.{◌≤◌, ◌-◌, List, length}
use Rattle.tcl_words.specs.Scanning.{left, AreClosed}
use Rattle.tcl_words.specs.declared.characters.Character.{Character}
use Rattle.tcl_words.proofs.brackets.bracket_end.Given as goal

abbrev pub invariant-loop-part : goal.invariant-loop-part
invariant-loop-part l = record {
  enough : (rest : List Character) → AreClosed l.depth (left l.text l.end) rest → AreClosed 0 (left l.text l.at) rest;
  needed : (rest : List Character) → AreClosed 0 (left l.text l.at) rest → AreClosed l.depth (left l.text l.end) rest;
  from : l.at ≤ l.end;
  within : l.end ≤ length l.text;
  depth : l.depth ≤ l.end;
}

abbrev pub decreases-loop-part : goal.decreases-loop-part
decreases-loop-part l = length l.text - l.end
