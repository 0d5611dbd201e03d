use Rattle.verilog_reader.proofs.ReadLaws.{one_value, one_breach, read_or_breached}
use Rattle.verilog_reader.proofs.reader.one_value.Goals as goal

pub returns-clause-value : goal.returns-clause-value
returns-clause-value c = one_value

pub returns-clause-breach : goal.returns-clause-breach
returns-clause-breach c = one_breach

pub returns-clause-apart : goal.returns-clause-apart
returns-clause-apart c = read_or_breached
