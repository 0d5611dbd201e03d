use Rattle.sdc_reader.proofs.FileLemmas.{one_answer_of}
use Rattle.sdc_reader.proofs.CommandLemmas.{one_command_of}
use Rattle.sdc_reader.proofs.reader.one_answer.Goals as goal

pub returns-clause-file : goal.returns-clause-file
returns-clause-file c = one_answer_of

pub returns-clause-command : goal.returns-clause-command
returns-clause-command c = one_command_of
