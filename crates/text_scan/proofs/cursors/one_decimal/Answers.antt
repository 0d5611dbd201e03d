use Rattle.text_scan.proofs.DecimalLaws.{one_answer}
use Rattle.text_scan.proofs.cursors.one_decimal.Goals as goal

pub returns : goal.returns
returns c = one_answer
