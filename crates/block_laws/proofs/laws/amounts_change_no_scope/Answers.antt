use Rattle.block_laws.proofs.ResolvedAlike.{resolved-same}
use Rattle.block_laws.proofs.laws.amounts_change_no_scope.Goals as goal

pub returns : goal.returns
returns c = λ d root t n commands size. resolved-same d root t n size commands
