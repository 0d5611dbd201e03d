use Rattle.sdc_reader.proofs.FileLemmas.{answer_given, torn_given}
use Rattle.sdc_reader.proofs.reader.read_sdc.Goals as goal

pub returns-clause-exact : goal.returns-clause-exact
returns-clause-exact c = λ answer has. answer_given c.args.text.now c.read_answer.result answer c.read_answer.ensures has

pub returns-clause-torn : goal.returns-clause-torn
returns-clause-torn c = λ torn. torn_given c.args.text.now c.read_answer.result c.read_answer.ensures torn
