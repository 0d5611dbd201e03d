use Rattle.block_theory.proofs.Groups.{class_at-inside}
use Rattle.block_theory.proofs.laws.classes_stay_inside.Goals as goal

pub returns : goal.returns
returns c = class_at-inside
