use Rattle.block_theory.proofs.Prefixes.{prefix-begins_none}
use Rattle.block_theory.proofs.laws.prefix_is_free.Goals as goal

pub returns : goal.returns
returns c = prefix-begins_none
