use Rattle.bud_design.proofs.ClassLaws.{class-decides-requirement}
use Rattle.path_requirements.proofs.laws.class_decides_requirement.Goals as goal

pub returns : goal.returns
returns c = class-decides-requirement
