use Rattle.tcl_words.proofs.SplitLemmas.{brackets_found, brackets_parts}
use Rattle.tcl_words.proofs.splitting.bracket_words.Goals as goal

pub returns-clause-splits : goal.returns-clause-splits
returns-clause-splits c = brackets_found c.args.at c.args.text.now c.split_brackets.result c.split_brackets.ensures.answer

pub returns-clause-parts : goal.returns-clause-parts
returns-clause-parts c = brackets_parts c.args.at c.args.text.now c.split_brackets.result c.split_brackets.ensures.answer
