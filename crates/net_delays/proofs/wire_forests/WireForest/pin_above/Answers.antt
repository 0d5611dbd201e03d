use Rattle.std.proofs.Common.{◌≡◌, ◌≤◌, ◌<◌, List, sym, ◌∙◌, ap, arith, refl, subst}
use Rattle.net_delays.specs.Forests.{mark_at, spot_at, IsSettled}
use Rattle.net_delays.specs.WireForests.{Forest, IsSoundForest}
use Rattle.net_delays.specs.declared.forests.Mark.{Mark}
use Rattle.net_delays.proofs.Above.{jump_settled, parent_settled, way_at_jump, way_at_parent, IsPinAbove-end}
use Rattle.net_delays.proofs.wire_forests.WireForest.pin_above.Goals as goal

pub loop-spot-preserved-then-far-depth : goal.loop-spot-preserved-then-far-depth
loop-spot-preserved-then-far-depth c =
    let sound : IsSoundForest c.args.self.now = rw c.self.view_is at c.self.invariant in
    let far : c.settled_spot-far.result ≡ spot_at c.args.self.now.marks c.loop-spot.spot.jump.0 =
    c.settled_spot-far.ensures ∙ ap (λ (m : List Mark). spot_at m c.loop-spot.spot.jump.0) (c.deref-in-loop-spot.ensures.value ∙ ap (λ (f : Forest). f.marks) c.self.view_is) in
    (far, way_at_jump c.args.self.now sound _ _ _ _ c.loop-spot.invariant.0 c.requires.settled c.loop-spot-test.true c.loop-spot.invariant.1 (rw far at c.if-far-depth.true))

pub settled_spot-spot-requires-else-far-depth : goal.settled_spot-spot-requires-else-far-depth
settled_spot-spot-requires-else-far-depth c =
    let sound : IsSoundForest c.args.self.now = rw c.self.view_is at c.self.invariant in
    rw (c.deref-else-far-depth.ensures.value, ap (λ (f : Forest). f.marks) c.self.view_is)
    (parent_settled c.args.self.now sound _ _ _ _ c.loop-spot.invariant.0 c.requires.settled c.loop-spot-test.true c.loop-spot.invariant.1)

pub loop-spot-preserved : goal.loop-spot-preserved
loop-spot-preserved c =
    let sound : IsSoundForest c.args.self.now = rw c.self.view_is at c.self.invariant in (
      c.settled_spot-spot-else-far-depth.ensures ∙ ap (λ (m : List Mark). spot_at m c.loop-spot.spot.parent.0) (c.deref-else-far-depth.ensures.value ∙ ap (λ (f : Forest). f.marks) c.self.view_is),
      way_at_parent c.args.self.now sound _ _ _ _ c.loop-spot.invariant.0 c.requires.settled c.loop-spot-test.true c.loop-spot.invariant.1,
    )

pub returns : goal.returns
returns c =
    let sound : IsSoundForest c.args.self.now = rw c.self.view_is at c.self.invariant in
    IsPinAbove-end c.args.self.now sound _ _ _ _ c.loop-spot.invariant.0 c.requires.higher c.loop-spot-test.false c.loop-spot.invariant.1
