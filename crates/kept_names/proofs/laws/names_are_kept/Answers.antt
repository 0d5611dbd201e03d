use Rattle.kept_names.proofs.Ways.{pin_kept, module_kept}
use Rattle.kept_names.proofs.laws.names_are_kept.Goals as goal

pub returns : goal.returns
returns c = record { pins = pin_kept; modules = module_kept }
