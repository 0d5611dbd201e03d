use Rattle.timing_objects.proofs.SpanSteps.{is-span}
use Rattle.timing_objects.proofs.orders.span_of.Goals as goal

pub returns : goal.returns
returns c =
    is-span c.args.pins.now c.args.place c.start_of.result c.end_of.result c.start_of.ensures.within c.end_of.ensures.within
    c.start_of.ensures.before c.start_of.ensures.behind c.end_of.ensures.before c.end_of.ensures.behind
