use Rattle.verilog_words.proofs.FinderLaws.{one_first}
use Rattle.verilog_words.proofs.finder.one_first.Goals as goal

pub returns : goal.returns
returns c = one_first
