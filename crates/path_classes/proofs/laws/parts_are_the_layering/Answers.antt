use Rattle.path_classes.proofs.PartLaws.{IsLayering-from_parts, Correspond-from_parts}
use Rattle.path_classes.proofs.laws.parts_are_the_layering.Goals as goal

pub returns-clause-layering : goal.returns-clause-layering
returns-clause-layering c = IsLayering-from_parts

pub returns-clause-paths : goal.returns-clause-paths
returns-clause-paths c = Correspond-from_parts
