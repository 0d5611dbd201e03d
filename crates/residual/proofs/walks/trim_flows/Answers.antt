use Rattle.std.proofs.Common.{◌∙◌}
use Rattle.residual.proofs.Walking.{LoseAtMost-more, IsLower-smaller, CarryAll-less, AreWalksTaken-more, kept-more}
use Rattle.residual.proofs.walks.trim_flows.Goals as goal

pub searches-smaller : goal.searches-smaller
searches-smaller c =
    let carried = CarryAll-less c.args.arcs.now c.searches.flows c.take_walks.new.flows (CarryAll-less c.args.arcs.now c.args.flows.now c.searches.flows c.requires.flows c.searches.invariant.0.less) c.take_walks.ensures.taken.less in
    IsLower-smaller c.args.arcs.now c.mark.new.ways c.args.from c.args.to c.searches.flows c.take_walks.new.flows carried c.requires.below c.requires.order c.take_walks.ensures.taken.less c.if-not-take_walks.ensures.answer

pub searches-preserved : goal.searches-preserved
searches-preserved c = (
  AreWalksTaken-more c.args.arcs.now c.args.first c.args.flows.now c.searches.flows c.take_walks.new.flows c.searches.invariant.0 c.take_walks.ensures.taken,
  c.mark.ensures.size ∙ c.searches.invariant.1,
  kept-more c.args.arcs.now c.args.first c.args.root.0 c.args.from c.args.to c.mark.ensures.ways.0 c.mark.new.ways c.args.flows.now c.searches.flows c.take_walks.new.flows c.searches.invariant.2 c.mark.ensures.ways.1
      c.mark.ensures.flow c.if-not-take_walks.ensures.answer,
  LoseAtMost-more c.args.from c.args.to c.args.flows.now c.searches.flows c.take_walks.new.flows c.searches.invariant.3 c.take_walks.ensures.loss,
)
