use Rattle.std.proofs.Common.{subst}
use Rattle.bud_base.specs.Rings.{IsLeastPlace}
use Rattle.timing_graph.proofs.RingParts.{IsOwnCycle-from_turned}
use Rattle.timing_graph.proofs.rings.own_cycle.Goals as goal

pub returns : goal.returns
returns c =
    IsOwnCycle-from_turned c.args.items.now c.args.ring.now c.in_ok-part.part c.in_ok-own.own.items _ c.in_ok-part.ensures c.in_ok-own.ensures.items
    (record {
      place = c.least_place-place.result;
      least = subst (λ xs. IsLeastPlace xs c.least_place-place.result) c.deref.ensures.value c.least_place-place.ensures;
      turned = c.rotate_left.ensures.items;
    })
