use Rattle.std.proofs.Common.{◌≡◌, ◌+◌, ◌-◌, ◌≤◌, ◌<◌, ℕ, ap, sym, subst, refl, ◌∙◌, arith, length}
use Rattle.net_delays.specs.Drives.{drive_of}
use Rattle.net_delays.specs.Climbs.{pin_on, IsSettling}
use Rattle.net_delays.proofs.Settling.{IsSettling-more, driven_at, new_at, depth_at}
use Rattle.net_delays.proofs.Climbing.{few_below}
use Rattle.net_delays.proofs.forests.settle.Goals as goal

pub spot_below-below-requires-clause-shallow : goal.spot_below-below-requires-clause-shallow
spot_below-below-requires-clause-shallow c = λ v settled.
    let now : IsSettling (drive_of c.args.drivers.now) c.args.marks.now c.loop-place.marks c.args.path.now (c.loop-place.place - 1 + 1) c.loop-place.order.items =
    (let same : c.loop-place.place - 1 + 1 ≡ c.loop-place.place = omega arith in rw same c.loop-place.invariant) in
    let place : ℕ = c.loop-place.place - 1 in
    let few = few_below (drive_of c.args.drivers.now) c.loop-place.marks c.loop-place.order.items (pin_on c.args.path.now place)
    (let within = c.loop-place.invariant.path_is.within place (omega (arith, c.loop-place.invariant.inside)) in omega (arith, c.loop-place.invariant.size))
    (new_at _ _ _ _ place _ _ refl now) c.loop-place.invariant.settled in
    omega (arith, c.loop-place.invariant.settled.listed.shallow v settled, c.requires.few, c.loop-place.invariant.size)

pub loop-place-preserved : goal.loop-place-preserved
loop-place-preserved c =
    let now : IsSettling (drive_of c.args.drivers.now) c.args.marks.now c.loop-place.marks c.args.path.now (c.loop-place.place - 1 + 1) c.loop-place.order.items =
    (let same : c.loop-place.place - 1 + 1 ≡ c.loop-place.place = omega arith in rw same c.loop-place.invariant) in
    rw c.in_ok-push.ensures.items
    (IsSettling-more _ _ _ _ _ _ _ _ (omega (arith, c.loop-place.invariant.inside)) refl c.spot_below-below.ensures.low
    (depth_at _ _ _ _ _ _ c.spot_below-below.ensures.placed c.spot_below-below.ensures.low c.loop-place.invariant.settled.listed)
    c.spot_below-below.ensures.placed now)
