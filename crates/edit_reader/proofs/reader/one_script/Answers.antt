use Rattle.std.proofs.Common.{None, Some}
use Rattle.std.proofs.lemmas.Option.{same_Some}
use Rattle.edit_reader.specs.Numbered.{lines_of}
use Rattle.edit_reader.proofs.ScriptLaws.{one_reading}
use Rattle.edit_reader.proofs.reader.one_script.Goals as goal

pub returns-clause-value : goal.returns-clause-value
returns-clause-value c = λ text a b first second. (one_reading (lines_of text) a b None None first second).0

pub returns-clause-breach : goal.returns-clause-breach
returns-clause-breach c = λ text a b first second. same_Some a b (one_reading (lines_of text) first.0 second.0 (Some a) (Some b) first.1 second.1).1

pub returns-clause-apart : goal.returns-clause-apart
returns-clause-apart c = λ text script at first second. (let same = (one_reading (lines_of text) script second.0 None (Some at) first second.1).1 in cc)
