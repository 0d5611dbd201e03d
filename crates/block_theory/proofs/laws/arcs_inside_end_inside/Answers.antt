use Rattle.block_theory.proofs.Insides.{EndsInside-arc}
use Rattle.block_theory.proofs.laws.arcs_inside_end_inside.Goals as goal

pub returns : goal.returns
returns c = λ d b a design block has inner. (let ends = EndsInside-arc d design b block a has inner in (ends.from, ends.to, ends.leaves, ends.enters))
