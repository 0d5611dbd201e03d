use Rattle.verilog_reader.proofs.ReadLaws.{answer_reads, answer_port, answer_number, answer_unsupported, answer_malformed}
use Rattle.verilog_reader.proofs.reader.read_verilog.Goals as goal

pub returns-clause-reads : goal.returns-clause-reads
returns-clause-reads c = λ m reads. answer_reads c.args.text.now m c.read_text.result c.read_text.ensures.answer reads

pub returns-clause-port : goal.returns-clause-port
returns-clause-port c = λ name at breached. answer_port c.args.text.now name at c.read_text.result c.read_text.ensures.answer breached

pub returns-clause-number : goal.returns-clause-number
returns-clause-number c = λ at breached. answer_number c.args.text.now at c.read_text.result c.read_text.ensures.answer breached

pub returns-clause-unsupported : goal.returns-clause-unsupported
returns-clause-unsupported c = λ word at unsupported. answer_unsupported c.args.text.now word at c.read_text.result c.read_text.ensures.answer unsupported

pub returns-clause-malformed : goal.returns-clause-malformed
returns-clause-malformed c = λ malformed none. answer_malformed c.args.text.now c.read_text.result c.read_text.ensures.answer malformed none
