use Rattle.std.proofs.Common.{◌≡◌, ◌≤◌, ◌-◌, ◌++◌, List, length}
use Rattle.tcl_words.specs.Commands.{AreCommands, Splits}
use Rattle.tcl_words.specs.Scanning.{left}
use Rattle.tcl_words.specs.declared.words.Word.{Word}
use Rattle.tcl_words.proofs.splitting.split.Given as goal

abbrev pub invariant-lines : goal.invariant-lines
invariant-lines l = record {
  enough : (more : List (List Word)) → AreCommands l.at (left l.text l.at) more → Splits l.text (l.commands.items ++ more);
  needed : (all : List (List Word)) → Splits l.text all → (more : List (List Word)) × ((all ≡ l.commands.items ++ more) × AreCommands l.at (left l.text l.at) more);
  within : l.at ≤ length l.text;
}

abbrev pub decreases-lines : goal.decreases-lines
decreases-lines l = length l.text - l.at
