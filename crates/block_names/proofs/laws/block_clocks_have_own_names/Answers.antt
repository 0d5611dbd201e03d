use Rattle.block_names.proofs.BlockClockNames.{block-names_differ, real-called, virtual-called}
use Rattle.block_names.proofs.laws.block_clocks_have_own_names.Goals as goal

pub returns-clause-differ : goal.returns-clause-differ
returns-clause-differ c = block-names_differ

pub returns-clause-reals : goal.returns-clause-reals
returns-clause-reals c = λ x k differ few. real-called x differ few k

pub returns-clause-virtuals : goal.returns-clause-virtuals
returns-clause-virtuals c = λ x k differ few. virtual-called x differ few k
