-- The names of an elaborated netlist's pins are of graphic characters.
use Rattle.std.proofs.Common.{◌≡◌, ℕ, suc, ◌<◌, true, Option, Some, None, List, [], ◌∷◌, ◌++◌, map, length, get_or, All, refl, sym, subst, arith}
use Rattle.std.specs.List.{flat_map, join_with_byte}
use Rattle.std.proofs.lemmas.List.Elements.{All-nil, All-append, All-head, All-tail, All-map}
use Rattle.std.proofs.lemmas.List.Concat.{flat_map-cons}
use Rattle.bud_syntax.specs.declared.modules.Module.{Module}
use Rattle.bud_syntax.specs.declared.modules.Port.{Port}
use Rattle.bud_design.specs.declared.designs.Place.{Place}
use Rattle.bud_design.specs.declared.designs.Pin.{Pin}
use Rattle.bud_design.specs.Designs.{Design, place_at, pin_at, way_down, pin_name}
use Rattle.bud_design.specs.DesignRules.{is_identifier}
use Rattle.bud_design.specs.Names.{printed, bit_name}
use Rattle.bud_design.proofs.NameLaws.{IsShort}
use Rattle.module_nets.specs.Nets.{PortBit, port_bits, range_bits}
use Rattle.elaborations.specs.Elaborations.{IsFlatDesign, module_of, pins_at}
use Rattle.elaborations.specs.Walks.{pins_of_module, pins_in, IsInstanceTree}
use Rattle.elaborations.proofs.Lists.{All-flat_map}
use Rattle.elaborations.proofs.Trees.{elaborated_tree}
use Rattle.std.specs.Str.{bytes_eq}
use Rattle.netlist_names.specs.Identifiers.{HasIdentifiers}
use Rattle.design_names.proofs.Texts.{printed-identifier, identifier-graphic, identifier-of, bit_name-graphic, bit_name-some, join-graphic, join-some}
use Rattle.design_names.proofs.Places.{IsPrintedName, find-all, way-graphic}

-- a pin of a place below this number, with a port whose name is an identifier
record IsNamedPin (places : ℕ) (pin : Pin) : Type 0 where
  within : pin.place < places
  port : IsPrintedName pin.port

all-flat : {X Y : Type 0} (P : Y → Type 0) (f : X → List Y) (Q : X → Type 0) (xs : List X) → ((x : X) → Q x → All P (f x)) → All Q xs → All P (flat_map f xs)
all-flat P f Q [] each all = All-nil P
all-flat P f Q (x ∷ xs) each all = subst (All P) (sym (flat_map-cons f x xs)) (All-append P (f x) (flat_map f xs) (each x (All-head Q x xs all)) (all-flat P f Q xs each (All-tail Q x xs all)))

abbrev IsPort : Port → Type 0
IsPort p = is_identifier p.name ≡ true

abbrev IsBit : PortBit → Type 0
IsBit b = is_identifier b.port ≡ true

bits-named : (p : Port) → IsPort p → All IsBit (map (λ b. record { port = p.name; bit = b; dir = p.dir }) (range_bits p.range))
bits-named p is = All-map IsBit (λ b. record { port = p.name; bit = b; dir = p.dir }) (range_bits p.range) (λ i default below. is)

pins-named : (places place : ℕ) (m : Module) → place < places → HasIdentifiers m → All (IsNamedPin places) (pins_at place m)
pins-named places place m below fine =
    let bits : All IsBit (port_bits m) = all-flat IsBit (λ p. map (λ b. record { port = p.name; bit = b; dir = p.dir }) (range_bits p.range)) IsPort m.ports bits-named fine.ports in
    All-map (IsNamedPin places) (λ (b : PortBit). record { place = place; port = printed b.port; bit = b.bit; dir = b.dir }) (port_bits m)
    (λ i default inside. record { within = below; port = record { identifier = (get_or (port_bits m) i default).port; is_such = bits i default inside; name_is = refl } })

module _ (modules : List Module) (names : All HasIdentifiers modules) (places : List Place) (pins : List Pin) (tree : IsInstanceTree modules places pins) where
  place-pins : (p : ℕ) → p < length places → All (IsNamedPin (length places)) (pins_in modules places p)
  place-pins p below = by_module (module_of modules (place_at places p)) refl
    where
      by_module : (o : Option Module) → module_of modules (place_at places p) ≡ o → All (IsNamedPin (length places)) (pins_of_module p o)
      by_module None is = All-nil (IsNamedPin (length places))
      by_module (Some m) is = pins-named (length places) p m below (find-all HasIdentifiers (λ n. bytes_eq (printed n.name) (place_at places p).«module») modules m names is)

  all-pins : All (IsNamedPin (length places)) pins
  all-pins = subst (All (IsNamedPin (length places))) (sym tree.pins_are) (All-flat_map (IsNamedPin (length places)) (pins_in modules places) 0 (length places) (λ p low high. place-pins p (omega (arith, high))))

  name-graphic : (place : ℕ) (port : List ℕ) (bit : Option ℕ) → place < length places → IsPrintedName port → IsShort bit → is_identifier (join_with_byte 47 (way_down places 0 place ++ bit_name port bit ∷ [])) ≡ true
  name-graphic place port bit within is short =
      let both = identifier-graphic port (subst (λ x. is_identifier x ≡ true) (sym is.name_is) (printed-identifier is.identifier is.is_such)) in
      identifier-of (join_with_byte 47 (way_down places 0 place ++ bit_name port bit ∷ []))
      (join-some (way_down places 0 place) (bit_name port bit) (bit_name-some port bit both.0))
      (join-graphic (way_down places 0 place) (bit_name port bit) (way-graphic modules names places pins tree (suc place) place (omega arith) within) (bit_name-graphic port bit short both.1))

pub pin_graphic : (modules : List Module) (top : Option (List ℕ)) (d : Design) (v : ℕ) → All HasIdentifiers modules → All (λ x. IsShort x.bit) d.pins → IsFlatDesign modules top d → v < length d.pins → is_identifier (pin_name d 0 v) ≡ true
pin_graphic modules top d v names shorts flat below =
    let tree : IsInstanceTree modules d.places d.pins = elaborated_tree modules top (record { places = d.places; pins = d.pins; count = flat.count }) flat.built in
    let pin = all-pins modules names d.places d.pins tree v (pin_at [] 0) below in
    name-graphic modules names d.places d.pins tree (pin_at d.pins v).place (pin_at d.pins v).port (pin_at d.pins v).bit pin.within pin.port (shorts v (pin_at [] 0) below)
