use Rattle.std.proofs.Common.{◌≡◌, ◌<◌, get_or, map, length, sym, ◌∙◌, ap, subst, arith, rules}
use Rattle.bud_design.specs.declared.clocks.Capture.{Capture}
use Rattle.class_ends.specs.Asks.{capture_item}
use Rattle.class_ends.proofs.AskSteps.{items-below}
use Rattle.class_ends.proofs.asks.link_captures.Goals as goal

pub fill-requires-clause-nodes : goal.fill-requires-clause-nodes
fill-requires-clause-nodes c =
    λ k d below.
    let items = c.as_slice.ensures.value ∙ c.in_ok-items.ensures in
    let all = items-below c.args.captures.now c.args.pins c.requires.pins c.as_slice.result.now items k d below in
    omega (arith, all, c.in_ok-links.ensures.nodes)
