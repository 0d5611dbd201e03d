-- An elaborated netlist with its wires is a flat design.
use Rattle.std.specs.Prelude.{◌≡◌, ℕ, ◌<◌, ◌≤◌, ◌+◌, Bool, true, false, List, [], length, Option, Some, None, All, AllPairs, Contains, slice_index_or, ◌⊎◌, if◌then◌else◌}
use Rattle.std.specs.List.{AllZip}
use Rattle.std.specs.Str.{bytes_eq}
use Rattle.std.proofs.Common.{true≢false, arith, sym, ◌∙◌, refl, ap, subst, inl, inr}
use Rattle.std.proofs.lemmas.List.Elements.{All-nil, All-map, All-weaker, All-contains, All-from_get_or}
use Rattle.bud_syntax.specs.declared.modules.Dir.{Dir}
use Rattle.bud_syntax.specs.declared.modules.Module.{Module}
use Rattle.bud_design.specs.declared.designs.Place.{Place}
use Rattle.bud_design.specs.declared.designs.Pin.{Pin}
use Rattle.bud_design.specs.declared.designs.Wire.{Wire}
use Rattle.bud_design.specs.Designs.{Design, place_at, pin_at, is_input, is_output}
use Rattle.bud_design.specs.DesignRules.{IsDesign, IsWireIn, HasPrintedForm, IsPrintedForm}
use Rattle.bud_design.specs.Lists.{Lists}
use Rattle.bud_design.specs.Names.{printed}
use Rattle.bud_design.proofs.DesignNames.{named_cells-differ, named_pins-differ}
use Rattle.bud_design.proofs.NameLaws.{IsShort, printed-injective}
use Rattle.module_nets.specs.Nets.{PortBit, port_bits, same_number}
use Rattle.net_drivers.specs.declared.pins.LocalWire.{LocalWire}
use Rattle.net_drivers.specs.Drivers.{local_wires}
use Rattle.elaborations.specs.Elaborations.{IsFlatDesign, all_wires, wires_in, wire_at, local_wires_of, place_of, first_pin, module_of, ends_before}
use Rattle.elaborations.specs.Walks.{children, StandsFor, IsOf, HasInside, IsInstanceTree}
use Rattle.elaborations.proofs.Driving.{IsOwnBit, IsChildBit, IsLocalAt, JoinsRightly, local-wires-right}
use Rattle.elaborations.proofs.Lists.{AllZip-at, AllZip-length, All-flat_map, by_lt, filter-range-within}
use Rattle.elaborations.proofs.PinNumbers.{no_bit, IsPinOf, pin-of, pins-of-all, pins-together, pins-from-place}
use Rattle.elaborations.specs.Ports.{HasPortsOnce}
use Rattle.elaborations.proofs.PortBits.{BitsApart, port_bits-apart}
use Rattle.elaborations.proofs.Siblings.{no_instance, tree-parents, tree-siblings}
use Rattle.elaborations.proofs.Tops.{find-all}
use Rattle.elaborations.proofs.Trees.{elaborated_tree}

module _ (modules : List Module) (places : List Place) (pins : List Pin) (tree : IsInstanceTree modules places pins) where
  -- a pin that a wire of a place joins: of the place, or of one that stands in it
  record IsJoined (own below : Dir → Bool) (p v : ℕ) : Type 0 where
    within : v < length pins
    at : ((pin_at pins v).place ≡ p × own (pin_at pins v).dir ≡ true) ⊎ ((place_at places (pin_at pins v).place).parent ≡ Some p × below (pin_at pins v).dir ≡ true)

  -- the pin of a port bit
  bit-of : (q k : ℕ) (m : Module) (passes : Dir → Bool) → q < length places → module_of modules (place_at places q) ≡ Some m → IsOwnBit passes m k
      → (first_pin pins q + k < length pins) × (((pin_at pins (first_pin pins q + k)).place ≡ q) × (passes (pin_at pins (first_pin pins q + k)).dir ≡ true))
  bit-of q k m passes less called bit =
      let at : IsPinOf modules places (length places) q k m = pin-of modules places (length places) q k m less called bit.below in
      subst (λ ps. (first_pin ps q + k < length ps) × (((pin_at ps (first_pin ps q + k)).place ≡ q) × (passes (pin_at ps (first_pin ps q + k)).dir ≡ true))) (sym tree.pins_are)
      (at.within, (ap (λ v. v.place) at.is, ap (λ v. passes v.dir) at.is ∙ bit.dir))

  joined-child : (own below : Dir → Bool) (p : ℕ) (m : Module) → AllZip (StandsFor modules places) m.instances (children places p 0 (length places)) → (i k : ℕ) → IsChildBit below modules m i k
      → IsJoined own below p (first_pin pins (place_of places p (Some i)) + k)
  joined-child own below p m zipped i k bit =
      let kids = children places p 0 (length places) in
      let short : i < length kids = omega (arith, bit.instance, AllZip-length (StandsFor modules places) m.instances kids zipped) in
      let stands = AllZip-at (StandsFor modules places) m.instances kids no_instance 0 zipped i short in
      let within = filter-range-within (λ q. same_number (place_at places q).parent (Some p)) 0 (length places) i 0 short in
      let same : stands.1.child ≡ bit.child = some-module stands.1.child bit.child (sym stands.1.called ∙ bit.called) in
      let at = bit-of (slice_index_or kids i 0) k bit.child below (omega (arith, within.0.1)) (stands.1.is_of.called ∙ ap (λ m. Some m) same) bit.bit in
      record {
        within = at.0;
        at = inr (ap (λ q. (place_at places q).parent) at.1.0 ∙ parent-of (place_at places (slice_index_or kids i 0)).parent within.1, at.1.1);
      }
    where
      some-module : (m n : Module) → Some m ≡ Some n → m ≡ n
      some-module m n same = ap (λ o. or_first o) same
        where
          or_first : Option Module → Module
          or_first None = m
          or_first (Some x) = x

      parent-of : (o : Option ℕ) → same_number o (Some p) ≡ true → o ≡ Some p
      parent-of None is = absurd (true≢false (sym is))
      parent-of (Some q) is = ap (λ k. Some k) (grind (arith, is))

  joined-at : (own below : Dir → Bool) (p : ℕ) (m : Module) → p < length places → IsOf modules places p m → AllZip (StandsFor modules places) m.instances (children places p 0 (length places))
      → (o : Option ℕ) (k : ℕ) → IsLocalAt own below modules m o k → IsJoined own below p (first_pin pins (place_of places p o) + k)
  joined-at own below p m less is_of zipped None k bit =
      let at = bit-of p k m own less is_of.called bit in
      record { within = at.0; at = inl (at.1.0, at.1.1) }
  joined-at own below p m less is_of zipped (Some i) k bit = joined-child own below p m zipped i k bit

  wire-right : (wires : List Wire) (p : ℕ) (m : Module) → p < length places → IsOf modules places p m → m.leaf ≡ false → AllZip (StandsFor modules places) m.instances (children places p 0 (length places))
      → (l : LocalWire) → JoinsRightly modules m l → IsWireIn (record { places = places; pins = pins; wires = wires }) (wire_at places pins p l)
  wire-right wires p m less is_of plain zipped l joins =
      let from = joined-at is_input is_output p m less is_of zipped l.from.instance l.from.bit joins.0 in
      let to = joined-at is_output is_input p m less is_of zipped l.to.instance l.to.bit joins.1 in
      record { from = from.within; to = to.within; home = less; holds = is_of.leaf ∙ plain; drives = from.at; loads = to.at }

  place-wires : (wires : List Wire) (most p : ℕ) → p < length places → All (IsWireIn (record { places = places; pins = pins; wires = wires })) (wires_in most modules places pins p)
  place-wires wires most p less =
      let filled = tree.filled p less in
      All-map (IsWireIn (record { places = places; pins = pins; wires = wires })) (wire_at places pins p) (local_wires_of most modules (module_of modules (place_at places p)))
      (subst (λ o. All (λ l. IsWireIn (record { places = places; pins = pins; wires = wires }) (wire_at places pins p l)) (local_wires_of most modules o)) (sym filled.is_of.called)
      (by_leaf filled.«module» filled.«module».leaf refl filled.is_of filled.inside))
    where
      by_leaf : (m : Module) (leaf : Bool) → m.leaf ≡ leaf → IsOf modules places p m → HasInside leaf modules places m (children places p 0 (length places))
          → All (λ l. IsWireIn (record { places = places; pins = pins; wires = wires }) (wire_at places pins p l)) (if leaf then [] else local_wires most modules m)
      by_leaf m true leaf is_of inside = All-nil (λ l. IsWireIn (record { places = places; pins = pins; wires = wires }) (wire_at places pins p l))
      by_leaf m false leaf is_of inside =
          All-weaker (JoinsRightly modules m) (λ l. IsWireIn (record { places = places; pins = pins; wires = wires }) (wire_at places pins p l)) (wire-right wires p m less is_of leaf inside.0)
          (local_wires most modules m) (local-wires-right modules m most)

  -- each wire of a place is one of the design
  pub wires-right : (wires : List Wire) (most : ℕ) → All (IsWireIn (record { places = places; pins = pins; wires = wires })) (all_wires most modules places pins)
  wires-right wires most =
      All-flat_map (IsWireIn (record { places = places; pins = pins; wires = wires })) (wires_in most modules places pins) 0 (length places) (λ p least less. place-wires wires most p (omega (arith, less)))

  -- names are in printed form
  forms : All (λ p. HasPrintedForm p.parent p.name) places
  forms = All-from_get_or (λ p. HasPrintedForm p.parent p.name) places (record { name = []; «module» = []; leaf = false; parent = None }) (λ p less. by_lt p 1
      (λ short. subst (λ q. HasPrintedForm (place_at places q).parent (place_at places q).name) (omega (arith, short)) (subst (λ o. HasPrintedForm o (place_at places 0).name) (sym tree.no_parent) tt))
      (λ long.
      let its = tree.below p long less in
      subst (λ o. HasPrintedForm o (place_at places p).name) (sym its.parent_is) (its.name, its.name_is)))

  -- place, port and number determine a pin
  module _ (once : All HasPortsOnce modules) where
    pin-alone : (v w : ℕ) → v < length pins → w < length pins → (pin_at pins v).place ≡ (pin_at pins w).place → (pin_at pins v).port ≡ (pin_at pins w).port → (pin_at pins v).bit ≡ (pin_at pins w).bit → v ≡ w
    pin-alone v w belowv beloww place port bit =
        let atv = pins-from-place modules places pins tree v belowv in
        let atw = pins-from-place modules places pins tree w beloww in
        let same : atv.place ≡ atw.place = sym (ap (λ x. x.place) atv.is) ∙ (place ∙ ap (λ x. x.place) atw.is) in
        let one : atv.«module» ≡ atw.«module» = some-module atv.«module» atw.«module» (sym atv.called ∙ (ap (λ q. module_of modules (place_at places q)) same ∙ atw.called)) in
        let bits = port_bits atv.«module» in
        let belowk : atw.number < length bits = subst (λ m. atw.number < length (port_bits m)) (sym one) atw.below in
        let ports : (slice_index_or bits atv.number no_bit).port ≡ (slice_index_or bits atw.number no_bit).port =
        printed-injective (slice_index_or bits atv.number no_bit).port (slice_index_or bits atw.number no_bit).port
        (sym (ap (λ x. x.port) atv.is) ∙ (port ∙ (ap (λ x. x.port) atw.is ∙ ap (λ m. printed (slice_index_or (port_bits m) atw.number no_bit).port) (sym one)))) in
        let numbers : (slice_index_or bits atv.number no_bit).bit ≡ (slice_index_or bits atw.number no_bit).bit =
        sym (ap (λ x. x.bit) atv.is) ∙ (bit ∙ (ap (λ x. x.bit) atw.is ∙ ap (λ m. (slice_index_or (port_bits m) atw.number no_bit).bit) (sym one))) in
        let apart = port_bits-apart atv.«module» (find-all HasPortsOnce (λ m. bytes_eq (printed m.name) (place_at places atv.place).«module») modules atv.«module» once atv.called) in
        let number : atv.number ≡ atw.number = same-number bits apart atv.number atw.number atv.below belowk ports numbers in
        atv.at ∙ (ap (λ q. first_pin pins q + atv.number) same ∙ (ap (λ k. first_pin pins atw.place + k) number ∙ sym atw.at))
      where
        some-module : (m n : Module) → Some m ≡ Some n → m ≡ n
        some-module m n same = ap (λ o. or_first o) same
          where
            or_first : Option Module → Module
            or_first None = m
            or_first (Some x) = x

        same-number : (bits : List PortBit) → AllPairs BitsApart bits → (i j : ℕ) → i < length bits → j < length bits → (slice_index_or bits i no_bit).port ≡ (slice_index_or bits j no_bit).port
            → (slice_index_or bits i no_bit).bit ≡ (slice_index_or bits j no_bit).bit → i ≡ j
        same-number bits pairs i j belowi belowj port bit = by_lt i j (λ less. absurd (pairs i j no_bit less belowj port bit))
            (λ more. by_lt j i (λ less. absurd (pairs j i no_bit less belowi (sym port) (sym bit))) (λ most. omega (arith, more, most)))

    -- the tree of instances with its wires is a design
    pub tree-design : (most : ℕ) (wires : List Wire) → All (λ v. IsShort v.bit) pins → Lists ends_before (Contains (all_wires most modules places pins)) wires → IsDesign (record { places = places; pins = pins; wires = wires })
    tree-design most wires short listed =
        let d : Design = record { places = places; pins = pins; wires = wires } in
        let parents = tree-parents modules places pins tree in
        let in_places : All (λ v. v.place < length places) pins = subst (All (λ v. v.place < length places)) (sym tree.pins_are) (pins-of-all modules places (length places)) in
        record {
          top = tree.some;
          plain_top = tree.plain_top;
          parents = parents;
          in_places = in_places;
          together = subst (AllPairs (λ u v. u.place ≤ v.place)) (sym tree.pins_are) (pins-together modules places 0 (length places));
          pin_names = named_pins-differ d parents forms (tree-siblings modules places pins tree) in_places port_forms short pin-alone 0;
          place_names = named_cells-differ d parents forms (tree-siblings modules places pins tree) 0;
          wires = λ k e below. All-contains (IsWireIn d) (all_wires most modules places pins) (slice_index_or wires k e) (wires-right wires most) (listed.sound k e below);
          by_last_pin = listed.rising;
        }
      where
        port_forms : All (λ v. IsPrintedForm v.port) pins
        port_forms = All-from_get_or (λ v. IsPrintedForm v.port) pins (record { place = 0; port = []; bit = None; dir = Rattle.bud_syntax.specs.declared.modules.Dir.TheVariants.Input })
            (λ v below.
            let at = pins-from-place modules places pins tree v below in
            ((slice_index_or (port_bits at.«module») at.number no_bit).port, ap (λ x. x.port) at.is))

-- what elaboration makes of a netlist, with its wires, is a flat design
pub flat_design : (modules : List Module) (top : Option (List ℕ)) (d : Design) → All HasPortsOnce modules → All (λ v. IsShort v.bit) d.pins → IsFlatDesign modules top d → IsDesign d
flat_design modules top d once short flat =
    tree-design modules d.places d.pins (elaborated_tree modules top (record { places = d.places; pins = d.pins; count = flat.count }) flat.built) once 4194304 d.wires short flat.wires
