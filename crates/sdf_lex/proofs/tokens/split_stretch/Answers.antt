use Rattle.std.proofs.lemmas.List.{take_rest}
use Rattle.sdf_lex.proofs.TokenLemmas.{tokens_cut}
use Rattle.sdf_lex.proofs.tokens.split_stretch.Goals as goal

pub returns-clause-tokens : goal.returns-clause-tokens
returns-clause-tokens c = rw take_rest (tokens_cut c.args.text.at c.args.text.bytes.now c.stretch-kind.result c.stretch-kind.ensures.kind c.requires)
