use Rattle.tcl_words.specs.Characters.{characters}
use Rattle.tcl_words.proofs.LineLemmas.{commands_once}
use Rattle.tcl_words.proofs.SplitLemmas.{brackets_once}
use Rattle.tcl_words.proofs.splitting.one_splitting.Goals as goal

pub returns-clause-commands : goal.returns-clause-commands
returns-clause-commands c = λ text a b first second. commands_once 0 (characters text) a b first second

pub returns-clause-words : goal.returns-clause-words
returns-clause-words c = λ text at a b first second. brackets_once at text a b first second
