use Rattle.edit_reader.proofs.ScriptLaws.{answer_reads, answer_breached, answer_malformed}
use Rattle.edit_reader.proofs.reader.read_edits.Goals as goal

pub returns-clause-reads : goal.returns-clause-reads
returns-clause-reads c = λ script reads. answer_reads c.args.text.now script c.read_in_ranges.result c.read_in_ranges.ensures.answer reads

pub returns-clause-breached : goal.returns-clause-breached
returns-clause-breached c = λ at breached. answer_breached c.args.text.now at c.read_in_ranges.result c.read_in_ranges.ensures.answer breached

pub returns-clause-malformed : goal.returns-clause-malformed
returns-clause-malformed c = λ malformed. answer_malformed c.args.text.now c.read_in_ranges.result c.read_in_ranges.ensures.answer malformed
