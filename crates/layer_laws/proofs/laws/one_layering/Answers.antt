use Rattle.layer_laws.proofs.OneLayering.{one_layering}
use Rattle.layer_laws.proofs.laws.one_layering.Goals as goal

pub returns : goal.returns
returns c = one_layering
