use Rattle.block_laws.proofs.Composing.{paths-meet}
use Rattle.block_laws.proofs.laws.pieces_compose.Goals as goal

pub returns : goal.returns
returns c = λ d t arcs all policy layered budgets arrivals captures blocks pins reached delay design homes kept stand are alike layering suit through meet glue.
    paths-meet d t arcs all layered arrivals captures blocks pins design homes kept stand are alike policy budgets layering suit reached delay
    (λ i below. through i 0 below) (λ i below. meet i 0 below) glue
