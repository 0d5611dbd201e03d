use Rattle.std.proofs.Common.{None, Some}
use Rattle.std.proofs.lemmas.Option.{same_Some}
use Rattle.line_text.specs.Parts.{rows_of}
use Rattle.policy_reader.proofs.PolicyLaws.{one_reading}
use Rattle.policy_reader.proofs.reader.one_value.Goals as goal

pub returns-clause-value : goal.returns-clause-value
returns-clause-value c = λ text p q first second. (one_reading (rows_of text) p q None None first second).0

pub returns-clause-breach : goal.returns-clause-breach
returns-clause-breach c = λ text a b first second. same_Some a b (one_reading (rows_of text) first.0 second.0 (Some a) (Some b) first.1 second.1).1

pub returns-clause-apart : goal.returns-clause-apart
returns-clause-apart c = λ text p at first second. (let same = (one_reading (rows_of text) p second.0 None (Some at) first second.1).1 in cc)
