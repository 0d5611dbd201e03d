use Rattle.elaborations.proofs.OneDesign.{one_design}
use Rattle.elaborations.proofs.laws.one_design.Goals as goal

pub returns : goal.returns
returns c = record { same = one_design }
