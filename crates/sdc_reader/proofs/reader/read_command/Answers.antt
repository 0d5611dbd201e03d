use Rattle.sdc_reader.proofs.CommandLemmas.{command_given, none_given}
use Rattle.sdc_reader.proofs.reader.read_command.Goals as goal

pub returns-clause-exact : goal.returns-clause-exact
returns-clause-exact c = λ answer has. command_given c.args.text.now c.read_first.result answer c.read_first.ensures.answer has

pub returns-clause-none : goal.returns-clause-none
returns-clause-none c = λ none. none_given c.args.text.now c.read_first.result c.read_first.ensures.answer none
