use Rattle.sdf_lex.proofs.TokenLemmas.{all_tokens, only_tokens}
use Rattle.sdf_lex.proofs.laws.tokens_of_texts.Goals as goal

pub returns-clause-are : goal.returns-clause-are
returns-clause-are c = λ text. all_tokens 0 text

pub returns-clause-only : goal.returns-clause-only
returns-clause-only c = λ text ts are. only_tokens 0 text ts are
