use Rattle.edit_reader.specs.Lines.IsLine.{plain}
use Rattle.edit_reader.proofs.ScriptLaws.{nothing_said}
use Rattle.edit_reader.proofs.lines.script_line.Goals as goal

pub returns-in_default-clause-answer : goal.returns-in_default-clause-answer
returns-in_default-clause-answer c = nothing_said _ _ c.in_default.ensures.parts

pub returns-clause-answer : goal.returns-clause-answer
returns-clause-answer c = plain _ _ c.in_ok-said.ensures.read
