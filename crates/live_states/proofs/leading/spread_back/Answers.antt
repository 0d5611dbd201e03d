use Rattle.std.proofs.Common.{◌≡◌, ◌-◌, length, ap, subst, arith, refl}
use Rattle.bud_base.specs.Orders.{node_at}
use Rattle.bud_base.proofs.ReachLemmas.{IsPulled, IsPulled-first, IsPulled-marked, AreReaching-from_pulled}
use Rattle.live_states.specs.Leading.{leading_graph}
use Rattle.live_states.proofs.leading.spread_back.Goals as goal

pub loop-place-init : goal.loop-place-init
loop-place-init c =
    let size = ap length c.nodes-places.ensures in
    (omega arith, IsPulled-first (leading_graph c.args.nodes c.args.items.now c.args.ends.now) _ _ _ _ size c.requires.none c.mark_ends.ensures)

pub loop-place-preserved-then-leads_to_marked : goal.loop-place-preserved-then-leads_to_marked
loop-place-preserved-then-leads_to_marked c =
    let same = ap (λ nodes. node_at nodes (c.loop-place.place - 1)) c.nodes-places.ensures in
    let within = c.requires.order.in_order.within (c.loop-place.place - 1) (omega (arith, c.requires.order.in_order.size, c.loop-place.invariant.0)) in (
      omega arith,
      IsPulled-marked (leading_graph c.args.nodes c.args.items.now c.args.ends.now) _ _ _ _ _ _ refl same c.requires.order.in_order (omega arith) c.loop-place.invariant.0 (omega (arith, same, within))
          (c.leads_to_marked.ensures.0 c.if-leads_to_marked.true) c.loop-place.invariant.1,
    )

pub returns : goal.returns
returns c = AreReaching-from_pulled (leading_graph c.args.nodes c.args.items.now c.args.ends.now) _ _ (record { items = c.requires.items; starts = λ k d below. absurd (omega (arith, below)); ends = c.requires.ends }) c.requires.order.in_order
    (let none : c.loop-place.place ≡ 0 = omega arith in
    subst (λ k. IsPulled (leading_graph c.args.nodes c.args.items.now c.args.ends.now) c.args.order.now.order c.loop-place.marks k) none c.loop-place.invariant.1)
