use Rattle.std.proofs.Common.{◌≡◌, ◌++◌, drop, map}
use Rattle.std.specs.List.{flat_map}
use Rattle.sdc_writer.specs.Texts.{line, command_words}
use Rattle.sdc_writer.proofs.writer.put_commands.Given as goal

-- the lines so far and those of what is left are all lines
abbrev pub invariant-loop-command : goal.invariant-loop-command
invariant-loop-command l = l.out.items ++ flat_map line (map command_words (drop l.command-index l.commands)) ≡ l.fn.out.items ++ flat_map line (map command_words l.commands)
