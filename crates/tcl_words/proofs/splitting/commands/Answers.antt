use Rattle.tcl_words.proofs.SplitLemmas.{commands_found, commands_parts}
use Rattle.tcl_words.proofs.splitting.commands.Goals as goal

pub returns-clause-splits : goal.returns-clause-splits
returns-clause-splits c = commands_found c.args.text.now c.split.result c.split.ensures.answer

pub returns-clause-parts : goal.returns-clause-parts
returns-clause-parts c = commands_parts c.args.text.now c.split.result c.split.ensures.answer
