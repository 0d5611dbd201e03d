use Rattle.std.proofs.Common.{sym, ◌∙◌}
use Rattle.edit_reader.proofs.ScriptLaws.{no_command}
use Rattle.edit_reader.proofs.commands.timing_command.Goals as goal

pub returns-in-Other-clause-answer : goal.returns-in-Other-clause-answer
returns-in-Other-clause-answer c = no_command _ _ (sym c.refusal_of.ensures ∙ c.in-Other.is) c.in-Err.ensures.exact
