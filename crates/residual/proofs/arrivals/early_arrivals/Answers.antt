use Rattle.residual.proofs.Sweeping.{AreReached-fresh}
use Rattle.residual.proofs.arrivals.early_arrivals.Goals as goal

pub returns : goal.returns
returns c = AreReached-fresh c.args.problem.now c.in_ok-arrivals.arrivals.items c.requires (c.in_ok-arrivals.ensures.items_if_clones_equal (λ y same. same))
