use Rattle.std.proofs.Common.{◌≡◌, ◌+◌, ℕ, Option, Some, ap, sym, subst, refl, ◌∙◌, arith}
use Rattle.std.specs.Option.{option_map}
use Rattle.bud_base.specs.declared.ids.PinId.{PinId}
use Rattle.net_delays.specs.Drives.{drive_of}
use Rattle.net_delays.specs.Forests.{mark_at, spot_at, IsSettled, IsPlaced, IsAbove}
use Rattle.net_delays.specs.Climbs.{HasSettledDriver}
use Rattle.net_delays.specs.declared.forests.Spot.{Spot}
use Rattle.net_delays.proofs.ForestLemmas.{AreOver, are_over, IsPlaced-below}
use Rattle.net_delays.proofs.forests.spot_below.Goals as goal
use Rattle.net_delays.proofs.forests.spot_below.Goals.{In-Some, then-parent-near, else-parent-near}

driver : (c : In-Some) → drive_of c.args.drivers.now c.args.pin.0 ≡ Some c.in-Some.driver.0
driver c = ap (option_map (λ (u : PinId). u.0)) c.in-Some.is

over : (c : In-Some) → AreOver (drive_of c.args.drivers.now) c.args.marks.now c.args.pin.0 c.in-Some.driver.0
over c = are_over _ _ c.requires.placed _ _ (driver c) (subst (HasSettledDriver c.args.marks.now) (driver c) c.requires.driven) c.requires.new

pub settled_spot-parent-requires : goal.settled_spot-parent-requires
settled_spot-parent-requires c = rw c.settled_spot-over.ensures (over (goal.at.settled_spot-parent-requires c).In-Some).head

pub settled_spot-near-requires : goal.settled_spot-near-requires
settled_spot-near-requires c = rw (c.settled_spot-parent.ensures, c.settled_spot-over.ensures) (over (goal.at.settled_spot-near-requires c).In-Some).near.settled

pub settled_spot-far-requires : goal.settled_spot-far-requires
settled_spot-far-requires c = rw (c.settled_spot-near.ensures, c.settled_spot-parent.ensures, c.settled_spot-over.ensures) (over (goal.at.settled_spot-far-requires c).In-Some).far.settled

pub overflow_sub-parent : goal.overflow_sub-parent
overflow_sub-parent c = rw (c.settled_spot-near.ensures, c.settled_spot-parent.ensures, c.settled_spot-over.ensures) (over (goal.at.overflow_sub-parent c).In-Some).near_level

pub overflow_sub-near : goal.overflow_sub-near
overflow_sub-near c = rw (c.settled_spot-far.ensures, c.settled_spot-near.ensures, c.settled_spot-parent.ensures, c.settled_spot-over.ensures) (over (goal.at.overflow_sub-near c).In-Some).far_level

pub returns-clause-placed : goal.returns-clause-placed
returns-clause-placed c =
    let facts = over (goal.at.returns-clause-placed c).In-Some in
    rw (driver (goal.at.returns-clause-placed c).In-Some)
    (IsPlaced-below _ _ _ _ _ facts refl (ap (λ (s : Spot). s.head.0) c.settled_spot-over.ensures) (ap (λ (s : Spot). s.depth + 1) c.settled_spot-over.ensures)
    (elim c.if-parent-near.branch [
      | then-parent-near w ↦ rw (w.jump-is, c.settled_spot-near.ensures, c.settled_spot-parent.ensures, c.settled_spot-over.ensures) facts.far
      | else-parent-near w ↦ rw (w.jump-is, c.settled_spot-over.ensures) facts.parent
    ]))
