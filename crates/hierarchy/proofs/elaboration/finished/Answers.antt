use Rattle.std.proofs.Common.{List, length, sym, subst}
use Rattle.bud_design.specs.declared.designs.Place.{Place}
use Rattle.bud_design.specs.declared.designs.Pin.{Pin}
use Rattle.flat_design.specs.Flats.{IsFlat}
use Rattle.hierarchy.proofs.FlatLaws.{is-flat, not-long}
use Rattle.hierarchy.proofs.elaboration.finished.Goals as goal

pub new-requires : goal.new-requires
new-requires c =
    let w = c.args.walk in
    subst (λ (ps : List Place). IsFlat (record { places = ps; pins = c.from_vec-2.result; wires = c.in_ok-wires.wires })) (sym c.from_vec.ensures)
    (subst (λ (us : List Pin). IsFlat (record { places = w.places.items; pins = us; wires = c.in_ok-wires.wires })) (sym c.from_vec-2.ensures)
    (is-flat c.args.library.now.modules.now c.requires.built.top w.places.items w.pins.items c.in_ok-wires.wires w.count c.requires.ports c.requires.walk.short c.requires.built.built
    c.in_ok-wires.ensures.wires c.in_ok-wires.ensures.few_places c.in_ok-wires.ensures.few_pins
    (not-long c.is_long.result c.len.result (length c.in_ok-wires.wires) c.is_long.ensures c.if-is_long.false c.len.ensures)))
