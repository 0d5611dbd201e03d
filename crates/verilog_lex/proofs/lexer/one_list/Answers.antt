use Rattle.verilog_lex.proofs.TokenLaws.{one_list, one_place, not_both}
use Rattle.verilog_lex.proofs.lexer.one_list.Goals as goal

pub returns-clause-list : goal.returns-clause-list
returns-clause-list c = λ text all other first second. one_list 0 text all other first second

pub returns-clause-place : goal.returns-clause-place
returns-clause-place c = λ text place other first second. one_place 0 text place other first second

pub returns-clause-apart : goal.returns-clause-apart
returns-clause-apart c = λ text all place first second. not_both 0 text all place second first
