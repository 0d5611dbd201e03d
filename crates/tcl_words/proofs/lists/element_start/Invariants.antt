use Rattle.std.proofs.Common.{◌≡◌, ◌≤◌, ◌-◌, drop, length}
use Rattle.tcl_words.specs.Commands.{behind_gap}
use Rattle.tcl_words.specs.Lists.{list_characters}
use Rattle.tcl_words.specs.declared.characters.Scope.TheVariants.{Brackets}
use Rattle.tcl_words.proofs.lists.element_start.Given as goal

abbrev pub invariant-loop-character : goal.invariant-loop-character
invariant-loop-character l = record {
  same : behind_gap Brackets (list_characters l.kind (drop l.start l.text)) ≡ behind_gap Brackets (list_characters l.kind l.text);
  within : l.start ≤ length l.text;
}

abbrev pub decreases-loop-character : goal.decreases-loop-character
decreases-loop-character l = length l.text - l.start
