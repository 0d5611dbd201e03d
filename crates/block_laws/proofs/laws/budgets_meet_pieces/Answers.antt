use Rattle.block_laws.proofs.Budgets.{pieces-within}
use Rattle.block_laws.proofs.laws.budgets_meet_pieces.Goals as goal

pub returns : goal.returns
returns c = λ d t arcs all policy layered budgets arrivals pins reached b delay design homes kept stand block through layering suit budgeted.
    pieces-within d t arcs all policy layered budgets arrivals pins design homes kept stand layering suit delay budgeted reached b block through
