use Rattle.std.proofs.Common.{◌<◌, ◌-◌, ◌≤◌, Some, arith, refl, ◌∙◌, length}
use Rattle.std.proofs.Math.ListN.{length-set}
use Rattle.residual.specs.Arcs.{arc_at}
use Rattle.residual.proofs.Marking.{IsSpreading-marked, unmarked_count-marked}
use Rattle.residual.proofs.walks.spread.Goals as goal

pub arcs-preserved-then-leads_on : goal.arcs-preserved-then-leads_on
arcs-preserved-then-leads_on c =
    let i = c.arcs.invariant in
    let leads = c.if-leads_on.ensures.yes refl in
    let above : c.args.first ≤ c.arcs.arc - 1 = omega (arith, c.arcs-test.true) in
    let below : c.arcs.arc - 1 < length c.args.arcs.now = omega (arith, c.arcs-test.true, i.1) in
    let there : (arc_at c.args.arcs.now (c.arcs.arc - 1)).from.0 < length c.arcs.ways = omega (arith, c.requires.joins.from (c.arcs.arc - 1) below, i.4) in
    let size = length-set c.arcs.ways (arc_at c.args.arcs.now (c.arcs.arc - 1)).from.0 (Some (record { arc = c.arcs.arc - 1; place = c.arcs.place })) in (
      above,
      omega (arith, below),
      IsSpreading-marked c.args.arcs.now c.args.flows.now c.args.first c.args.root.0 c.arcs.ways c.args.before c.arcs.place c.arcs.arc (c.arcs.arc - 1) i.2 leads above below there,
      omega (arith, i.3, unmarked_count-marked c.arcs.ways (arc_at c.args.arcs.now (c.arcs.arc - 1)).from.0 (record { arc = c.arcs.arc - 1; place = c.arcs.place }) there leads.free),
      size ∙ i.4,
    )
