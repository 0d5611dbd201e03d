use Rattle.block_names.proofs.FormReadings.{forms-read}
use Rattle.block_names.proofs.FormsReadable.{block_forms-read}
use Rattle.block_names.proofs.laws.exceptions_read_as_meant.Goals as goal

pub returns-clause-forms : goal.returns-clause-forms
returns-clause-forms c = block_forms-read

pub returns-clause-read : goal.returns-clause-read
returns-clause-read c = λ x scope number forms design block differ few clocks are. forms-read x design block differ few forms scope clocks number are
