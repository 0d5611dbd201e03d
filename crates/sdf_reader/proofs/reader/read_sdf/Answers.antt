use Rattle.sdf_reader.proofs.FileLaws.{answer_reads, answer_breached, answer_left_out, answer_malformed}
use Rattle.sdf_reader.proofs.reader.read_sdf.Goals as goal

pub returns-clause-reads : goal.returns-clause-reads
returns-clause-reads c = λ value reads. answer_reads c.args.text.now value c.read_in_ranges.result c.read_in_ranges.ensures.answer reads

pub returns-clause-breached : goal.returns-clause-breached
returns-clause-breached c = λ at breached. answer_breached c.args.text.now at c.read_in_ranges.result c.read_in_ranges.ensures.answer breached

pub returns-clause-unsupported : goal.returns-clause-unsupported
returns-clause-unsupported c = λ word at malformed out. answer_left_out c.args.text.now word at c.read_in_ranges.result c.read_in_ranges.ensures.answer malformed out

pub returns-clause-malformed : goal.returns-clause-malformed
returns-clause-malformed c = λ malformed none. answer_malformed c.args.text.now c.read_in_ranges.result c.read_in_ranges.ensures.answer malformed none
