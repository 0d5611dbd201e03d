use Rattle.std.proofs.Common.{sym, ◌∙◌, rules}
use Rattle.std.proofs.lemmas.List.{nil_from_length}
use Rattle.sdf_lex.proofs.TokenLemmas.{tokens_none}
use Rattle.sdf_lex.proofs.tokens.next_token.Goals as goal

pub returns-clause-tokens : goal.returns-clause-tokens
returns-clause-tokens c = sym c.loop-rest.invariant.same ∙ tokens_none _ (nil_from_length _ (search rules))
