use Rattle.verilog_lex.proofs.TokenLaws.{answer_found, answer_refused, answer_none}
use Rattle.verilog_lex.proofs.SpellingLaws.{answer_stands}
use Rattle.verilog_lex.proofs.lexer.tokens.Goals as goal

pub returns-clause-found : goal.returns-clause-found
returns-clause-found c = λ all given. answer_found c.args.text.now all c.find_tokens.result c.find_tokens.ensures.answer given

pub returns-clause-refused : goal.returns-clause-refused
returns-clause-refused c = λ place given. answer_refused c.args.text.now place c.find_tokens.result c.find_tokens.ensures.answer given

pub returns-clause-none : goal.returns-clause-none
returns-clause-none c = λ none. answer_none c.args.text.now c.find_tokens.result c.find_tokens.ensures.answer none

pub returns-clause-stand : goal.returns-clause-stand
returns-clause-stand c = answer_stands c.args.text.now c.find_tokens.result c.find_tokens.ensures.answer
