use Rattle.policy_reader.proofs.PolicyLaws.{answer_reads, answer_breached, answer_malformed}
use Rattle.policy_reader.proofs.RangeLaws.{ranges_read}
use Rattle.policy_reader.proofs.reader.read_policy.Goals as goal

pub returns-clause-reads : goal.returns-clause-reads
returns-clause-reads c = λ p reads. answer_reads c.args.text.now p c.read_in_ranges.result c.read_in_ranges.ensures.answer reads

pub returns-clause-breached : goal.returns-clause-breached
returns-clause-breached c = λ at breached. answer_breached c.args.text.now at c.read_in_ranges.result c.read_in_ranges.ensures.answer breached

pub returns-clause-malformed : goal.returns-clause-malformed
returns-clause-malformed c = λ malformed. answer_malformed c.args.text.now c.read_in_ranges.result c.read_in_ranges.ensures.answer malformed

pub returns-clause-ranges : goal.returns-clause-ranges
returns-clause-ranges c = ranges_read c.args.text.now c.read_in_ranges.result c.read_in_ranges.ensures.answer
