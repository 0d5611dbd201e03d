use Rattle.std.proofs.Common.{◌≡◌, ◌≤◌, ◌-◌, ◌++◌, length, map}
use Rattle.tcl_words.specs.Characters.{characters, meaning}
use Rattle.tcl_words.specs.Scanning.{left}
use Rattle.tcl_words.proofs.readers.meanings.Given as goal

abbrev pub invariant-loop-character : goal.invariant-loop-character
invariant-loop-character l = record {
  same : l.text.items ++ map meaning (left l.bytes l.at) ≡ map meaning (characters l.bytes);
  within : l.at ≤ length l.bytes;
}

abbrev pub decreases-loop-character : goal.decreases-loop-character
decreases-loop-character l = length l.bytes - l.at
