use Rattle.std.proofs.Common.{length, subst}
use Rattle.flat_design.specs.Keyed.{HaveKeys, HavePinKeys}
use Rattle.flat_design.proofs.KeyLaws.{are-tables}
use Rattle.name_tables.specs.Chained.{key_at, AreChained}
use Rattle.flat_design.proofs.flats.Flat.new.Goals as goal

pub invariant_of-result : goal.invariant_of-result
invariant_of-result c =
    let places = c.in_ok-place_keys.place_keys.items in
    let pins = c.in_ok-pin_keys.pin_keys.items in
    let have = subst (λ ps. HaveKeys ps (length ps) places) c.as_slice.ensures c.in_ok-place_keys.ensures in
    let havepins = subst (λ ks. HavePinKeys ks c.args.pins (length c.args.pins) pins) c.as_slice-3.ensures.value
    (subst (λ vs. HavePinKeys c.as_slice-3.result.now vs (length vs) pins) c.as_slice-4.ensures c.in_ok-pin_keys.ensures) in
    let areinstances = subst (λ ks. AreChained (key_at ks) 1 (length ks) c.in_ok-instances.instances) c.as_slice-2.ensures.value c.in_ok-instances.ensures in
    let arebits = subst (λ ks. AreChained (key_at ks) 0 (length ks) c.in_ok-bits.bits) c.as_slice-5.ensures.value c.in_ok-bits.ensures in
    are-tables (record { places = c.args.places; pins = c.args.pins; wires = c.args.wires }) places pins c.in_ok-bits.bits c.in_ok-instances.instances c.requires have havepins arebits areinstances
