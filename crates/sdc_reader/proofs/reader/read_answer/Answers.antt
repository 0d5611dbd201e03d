use Rattle.sdc_reader.proofs.FileLemmas.{answer_is}
use Rattle.sdc_reader.proofs.reader.read_answer.Goals as goal

pub returns-in-Ok : goal.returns-in-Ok
returns-in-Ok c = answer_is c.args.text.now c.in-Ok.list c.read_all.result c.in-Ok.ensures.answer (rw c.into_vec.ensures at c.read_all.ensures)
