use Rattle.verilog_reader.proofs.NestingLaws.{expr_sound, expr_complete}
use Rattle.verilog_reader.proofs.laws.nesting_has_no_meaning.Goals as goal

pub returns-clause-sound : goal.returns-clause-sound
returns-clause-sound c = expr_sound

pub returns-clause-complete : goal.returns-clause-complete
returns-clause-complete c = expr_complete
