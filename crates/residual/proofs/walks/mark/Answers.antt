use Rattle.residual.proofs.Marking.{AreWays-none, HaveFlow-none, unmarked_count-few}
use Rattle.residual.proofs.walks.mark.Goals as goal

pub passes-init : goal.passes-init
passes-init c =
    (AreWays-none c.args.arcs.now c.args.first c.args.root.0 c.clear.new.ways c.clear.ensures.none, HaveFlow-none c.args.flows.now c.clear.new.ways c.clear.ensures.none, unmarked_count-few c.clear.new.ways, c.clear.ensures.size)
