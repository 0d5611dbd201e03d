use Rattle.std.proofs.Common.{◌≡◌, ◌≤◌, ◌+◌, ◌-◌, ◌++◌, List, length}
use Rattle.tcl_words.specs.Scanning.{left, StandAll}
use Rattle.tcl_words.specs.declared.characters.Character.{Character}
use Rattle.tcl_words.specs.declared.words.Word.{Word}
use Rattle.tcl_words.proofs.readers.words.Given as goal

abbrev pub invariant-words : goal.invariant-words
invariant-words l = record {
  enough : (rest : List Character) (more : List Word) → StandAll l.scope (l.base + l.end) (left l.text l.end) rest more → StandAll l.scope (l.base + l.at) (left l.text l.at) rest (l.words.items ++ more);
  needed : (rest : List Character) (all : List Word) → StandAll l.scope (l.base + l.at) (left l.text l.at) rest all → (more : List Word) × ((all ≡ l.words.items ++ more) × StandAll l.scope (l.base + l.end) (left l.text l.end) rest more);
  from : l.at ≤ l.end;
  within : l.end ≤ length l.text;
}

abbrev pub decreases-words : goal.decreases-words
decreases-words l = length l.text - l.end
