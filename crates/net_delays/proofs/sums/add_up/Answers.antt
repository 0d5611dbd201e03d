use Rattle.std.proofs.Common.{◌≡◌, ◌≤◌, length, arith, ap, sym, refl, ◌∙◌}
use Rattle.std.proofs.lemmas.List.{length-set}
use Rattle.net_delays.specs.Drives.{drive_of}
use Rattle.net_delays.specs.Alongs.{AreAdded}
use Rattle.net_delays.proofs.Adding.{wide_sums, few_listed, driven_at, AreAdded-none, AreAdded-more, AreSums-end}
use Rattle.net_delays.proofs.sums.add_up.Goals as goal

pub add_at-requires-clause-within : goal.add_at-requires-clause-within
add_at-requires-clause-within c = λ v.
    let few = few_listed _ _ c.requires.listing in
    wide_sums c.loop-pin.pin-index _ (omega (arith, few)) (c.loop-pin.invariant.1.within v)

pub loop-pin-preserved : goal.loop-pin-preserved
loop-pin-preserved c =
    let driven = driven_at _ _ c.requires.listing c.loop-pin.pin-index c.loop-pin-test.true in
    let new = c.add_at.ensures driven.0 driven.1 in
    rw new (
      length-set _ _ _ ∙ c.loop-pin.invariant.0,
      AreAdded-more _ _ c.requires.listing c.args.alongs.now c.loop-pin.sums (omega (arith, c.requires.sizes, c.loop-pin.invariant.0)) (rw c.loop-pin.invariant.0 c.requires.sound) c.loop-pin.pin-index driven.0 _
          c.loop-pin-test.true driven.1 refl c.loop-pin.invariant.1,
    )

pub returns : goal.returns
returns c =
    let whole : c.loop-pin.pin-index ≡ length c.args.order.now = omega arith in
    AreSums-end _ _ c.requires.listing c.args.alongs.now c.loop-pin.sums _ c.requires.sound (rw whole at c.loop-pin.invariant.1) c.loop-pin.invariant.0
