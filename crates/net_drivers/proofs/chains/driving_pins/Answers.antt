use Rattle.std.proofs.Common.{ℕ, ◌<◌, List, length, slice_index, sym, subst}
use Rattle.net_drivers.proofs.NumberLaws.{AreSteps-within, ArePinsOf-followed, far-within}
use Rattle.net_drivers.specs.Numbering.{AreSteps, ArePinsAt}
use Rattle.net_drivers.specs.Chains.{StayWithin, IsFollowed}
use Rattle.net_drivers.proofs.chains.driving_pins.Goals as goal

pub follow-requires : goal.follow-requires
follow-requires c = record { within = rw c.as_slice.ensures.value (AreSteps-within c.requires.below.each c.in_ok-next.ensures) }

pub pins_at-requires : goal.pins_at-requires
pins_at-requires c =
    let followed : IsFollowed 4194304 c.in_ok-next.next.items c.in_ok-far.far.items = subst (λ xs. IsFollowed 4194304 xs c.in_ok-far.far.items) c.as_slice.ensures.value c.in_ok-far.ensures in
    subst (λ (xs : List ℕ). (k : ℕ) → k < length xs → slice_index xs k < length c.args.slots.now) (sym c.as_slice-2.ensures.value)
    (far-within c.requires.below c.in_ok-next.ensures followed)

pub returns : goal.returns
returns c =
    let followed : IsFollowed 4194304 c.in_ok-next.next.items c.in_ok-far.far.items = subst (λ xs. IsFollowed 4194304 xs c.in_ok-far.far.items) c.as_slice.ensures.value c.in_ok-far.ensures in
    ArePinsOf-followed c.in_ok-next.ensures followed (subst (λ xs. ArePinsAt c.args.slots.now xs c.in_ok-pins.pins.items) c.as_slice-2.ensures.value c.in_ok-pins.ensures)
