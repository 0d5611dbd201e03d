use Rattle.elaborations.proofs.DesignLaws.{flat_design}
use Rattle.elaborations.proofs.laws.elaborated_netlist_is_a_design.Goals as goal

pub returns : goal.returns
returns c = record { design = flat_design }
