use Rattle.std.proofs.Common.{◌≡◌, ◌<◌, ℕ, List, length, sym, ◌∙◌, ap, subst}
use Rattle.std.specs.Prelude.{All, Contains, IfOk}
use Rattle.bud_design.specs.declared.designs.Place.{Place}
use Rattle.bud_design.specs.declared.designs.Pin.{Pin}
use Rattle.bud_design.specs.declared.designs.Wire.{Wire}
use Rattle.bud_design.specs.Lists.{Lists}
use Rattle.elaborations.specs.Elaborations.{ends_before}
use Rattle.net_drivers.specs.declared.pins.LocalWire.{LocalWire}
use Rattle.design_wires.specs.Gathering.{gathered, wires_of}
use Rattle.design_wires.specs.Sorting.{EndApart}
use Rattle.design_wires.proofs.GatherLaws.{gathered-within}
use Rattle.design_wires.proofs.gathering.design_wires.Goals as goal

same-gathered : (wires : List Wire) (ps qs : List Place) (us vs : List Pin) (w : ℕ → List LocalWire) → wires ≡ gathered ps us w → ps ≡ qs → us ≡ vs → wires ≡ gathered qs vs w
same-gathered wires ps qs us vs w are places pins = are ∙ (ap (λ ps. gathered ps us w) places ∙ ap (λ us. gathered qs us w) pins)

pub by_last_pin-requires-clause-within : goal.by_last_pin-requires-clause-within
by_last_pin-requires-clause-within c =
    let are = c.as_slice.ensures.value ∙ same-gathered c.in_ok-wires.wires.items c.in_ok-numbers.numbers.places.now c.args.places.now c.in_ok-numbers.numbers.pins.now c.args.pins.now (wires_of c.args.locals.now c.args.kinds.now) c.in_ok-wires.ensures c.in_ok-numbers.ensures.places c.in_ok-numbers.ensures.pins in
    subst (λ (ws : List Wire). All (λ w. w.to.0 < length c.args.pins.now) ws) (sym are) (gathered-within c.args.places.now c.args.pins.now (wires_of c.args.locals.now c.args.kinds.now) c.requires.joined)

pub by_last_pin-requires-clause-apart : goal.by_last_pin-requires-clause-apart
by_last_pin-requires-clause-apart c =
    let are = c.as_slice.ensures.value ∙ same-gathered c.in_ok-wires.wires.items c.in_ok-numbers.numbers.places.now c.args.places.now c.in_ok-numbers.numbers.pins.now c.args.pins.now (wires_of c.args.locals.now c.args.kinds.now) c.in_ok-wires.ensures c.in_ok-numbers.ensures.places c.in_ok-numbers.ensures.pins in
    subst EndApart (sym are) c.requires.apart

pub returns : goal.returns
returns c =
    let are = c.as_slice.ensures.value ∙ same-gathered c.in_ok-wires.wires.items c.in_ok-numbers.numbers.places.now c.args.places.now c.in_ok-numbers.numbers.pins.now c.args.pins.now (wires_of c.args.locals.now c.args.kinds.now) c.in_ok-wires.ensures c.in_ok-numbers.ensures.places c.in_ok-numbers.ensures.pins in
    subst (λ (ws : List Wire). IfOk c.by_last_pin.result (Lists ends_before (Contains ws))) are c.by_last_pin.ensures
