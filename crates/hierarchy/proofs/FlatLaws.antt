-- What elaboration makes, with its wires, is a flat design with printed names.
use Rattle.std.specs.Prelude.{◌≡◌, ℕ, zero, suc, ◌<◌, ◌≤◌, ◌+◌, ◌⊎◌, Bool, true, false, List, [], map, flat_map, length, All, Contains, IsTrue, ◌↔◌, Option, Some, Result, Ok, Err, slice_index_or, if◌then◌else◌}
use Rattle.std.specs.List.{range_with_len}
use Rattle.std.specs.Str.{bytes_eq}
use Rattle.std.proofs.Common.{true≢false, arith, sym, ◌∙◌, refl, ap, subst, inl, inr}
use Rattle.std.proofs.lemmas.List.{get_or_append_left}
use Rattle.std.proofs.lemmas.List.Elements.{All-from_get_or}
use Rattle.std.proofs.lemmas.Slice.Eq.{bytes_eq-Decides}
use Rattle.bud_syntax.specs.declared.modules.Module.{Module}
use Rattle.bud_design.specs.declared.designs.Place.{Place}
use Rattle.bud_design.specs.declared.designs.Pin.{Pin}
use Rattle.bud_design.specs.declared.designs.Wire.{Wire}
use Rattle.bud_design.specs.Designs.{Design, place_at, pin_at}
use Rattle.bud_design.specs.DesignRules.{HasPrintedForm, IsPrintedForm}
use Rattle.bud_design.specs.Names.{printed}
use Rattle.net_drivers.specs.declared.pins.LocalWire.{LocalWire}
use Rattle.net_drivers.specs.Drivers.{local_wires}
use Rattle.module_nets.specs.declared.faults.ElabFault.{ElabFault}
use Rattle.module_nets.specs.Nets.{port_bits}
use Rattle.module_nets.specs.Tops.{module_at, top_module}
use Rattle.elaborations.specs.Elaborations.{Built, ◌>>=◌, elaborated, enter, top_entry, top_built, all_wires, ends_before, wire_at, local_wires_of, module_of}
use Rattle.elaborations.specs.Walks.{IsInstanceTree}
use Rattle.elaborations.proofs.Called.{find-passes}
use Rattle.elaborations.proofs.Growing.{enter-grows}
use Rattle.elaborations.proofs.Lists.{by_lt}
use Rattle.elaborations.proofs.DesignLaws.{flat_design}
use Rattle.elaborations.proofs.PinNumbers.{no_bit, pins-from-place, pins-of-all}
use Rattle.elaborations.proofs.Trees.{elaborated_tree}
use Rattle.elaborations.specs.Ports.{HasPortsOnce}
use Rattle.bud_design.proofs.NameLaws.{IsShort}
use Rattle.bud_design.specs.Lists.{Lists}
use Rattle.design_wires.specs.Gathering.{JoinsPins, JoinPins, wires_of, gathered}
use Rattle.design_wires.specs.Sorting.{EndApart}
use Rattle.flat_design.specs.Flats.{HasPrintedForms, IsFlat}
use Rattle.hierarchy.specs.Surveys.{HasItsWires, is_known, AreKinds, AreWiresKnown}
use Rattle.hierarchy.proofs.Joins.{join-pins, end-apart}

-- ---- names
-- the top keeps its name
pub top-name : (modules : List Module) (top : Option (List ℕ)) (built : Built) → elaborated modules top ≡ Ok built → (place_at built.places 0).name ≡ []
top-name modules top built done = by_top (top_module modules top) done
  where
    is_ok : {X Y : Type 0} → Result X Y → Bool
    is_ok (Ok x) = true
    is_ok (Err y) = false

    by_top : (r : Result Module ElabFault) → (r >>= (λ m. enter 257 modules (top_entry m) 0 (top_built m))) ≡ Ok built → (place_at built.places 0).name ≡ []
    by_top (Err fault) done = absurd (true≢false (sym (ap is_ok done)))
    by_top (Ok m) done =
        let grows = (enter-grows 257 modules (top_entry m) 0 (top_built m) built (omega arith) done).0 in
        ap (λ ps. (place_at ps 0).name) grows.places_are ∙ ap (λ (p : Place). p.name) (get_or_append_left (top_built m).places grows.more (place_at [] 0) 0 (omega arith))

-- the names of the tree are in printed form
pub tree-forms : (modules : List Module) (places : List Place) (pins : List Pin) (wires : List Wire) → IsInstanceTree modules places pins → (place_at places 0).name ≡ []
    → HasPrintedForms (record { places = places; pins = pins; wires = wires })
tree-forms modules places pins wires tree top = record {
  top = top;
  places = All-from_get_or (λ p. HasPrintedForm p.parent p.name) places (place_at [] 0) place-form;
  modules = All-from_get_or (λ p. IsPrintedForm p.«module») places (place_at [] 0) module-form;
  ports = All-from_get_or (λ v. IsPrintedForm v.port) pins (pin_at [] 0) port-form;
}
  where
    place-form : (p : ℕ) → p < length places → HasPrintedForm (place_at places p).parent (place_at places p).name
    place-form p less = by_lt p 1
        (λ short.
        let is : 0 ≡ p = omega (arith, short) in
        subst (λ q. HasPrintedForm (place_at places q).parent (place_at places q).name) is (subst (λ o. HasPrintedForm o (place_at places 0).name) (sym tree.no_parent) tt))
        (λ long.
        let its = tree.below p long less in
        subst (λ o. HasPrintedForm o (place_at places p).name) (sym its.parent_is) (its.name, its.name_is))

    module-form : (p : ℕ) → p < length places → IsPrintedForm (place_at places p).«module»
    module-form p less =
        let its = tree.filled p less in
        (its.«module».name, sym ((bytes_eq-Decides (printed its.«module».name) (place_at places p).«module»).0 (find-passes (λ m. bytes_eq (printed m.name) (place_at places p).«module») modules its.«module» its.is_of.called)))

    port-form : (v : ℕ) → v < length pins → IsPrintedForm (pin_at pins v).port
    port-form v below =
        let at = pins-from-place modules places pins tree v below in
        ((slice_index_or (port_bits at.«module») at.number no_bit).port, ap (λ (x : Pin). x.port) at.is)

-- ---- wires
flat_map-same : {X : Type 0} (f g : ℕ → List X) (a n : ℕ) → ((p : ℕ) → a ≤ p → p < a + n → f p ≡ g p) → flat_map f (range_with_len a n) ≡ flat_map g (range_with_len a n)
flat_map-same f g a zero same = refl
flat_map-same f g a (suc n) same =
    rw (same a (omega arith) (omega arith), flat_map-same f g (a + 1) n (λ p low high. same p (omega (arith, low)) (omega (arith, high)))) refl

module _ (modules : List Module) (places : List Place) (kinds : List ℕ) (known : List Bool) (wires : List (List LocalWire)) (are : AreKinds modules known places kinds) (surveyed : AreWiresKnown modules known wires) where
  listed : (m : Module) (b : Bool) (ws : List LocalWire) → HasItsWires modules m b ws → (m.leaf ≡ true) ⊎ (b ≡ true) → local_wires_of 4194304 modules (Some m) ≡ ws
  listed m true ws its entered = ap (λ leaf. if leaf then [] else local_wires 4194304 modules m) its.0 ∙ sym its.1.0
  listed m false ws its (inl leaf) = ap (λ leaf. if leaf then [] else local_wires 4194304 modules m) leaf ∙ sym its
  listed m false ws its (inr none) = absurd (true≢false (sym none))

  -- the wires of the module of a place are those that were found as it was entered
  pub its-wires : (p : ℕ) → p < length places → local_wires_of 4194304 modules (module_of modules (place_at places p)) ≡ wires_of wires kinds p
  its-wires p less =
      let its = are.each p less in
      let k = slice_index_or kinds p 0 in
      ap (local_wires_of 4194304 modules) its.called ∙ listed (module_at modules k) (is_known known k) (slice_index_or wires k []) (surveyed.each k its.below) its.entered

  pub all-gathered : (pins : List Pin) → all_wires 4194304 modules places pins ≡ gathered places pins (wires_of wires kinds)
  all-gathered pins =
      flat_map-same (λ p. map (wire_at places pins p) (local_wires_of 4194304 modules (module_of modules (place_at places p)))) (λ p. map (wire_at places pins p) (wires_of wires kinds p)) 0 (length places)
      (λ p low high. ap (map (wire_at places pins p)) (its-wires p (omega (arith, high))))

  pub gathered-joined : (pins : List Pin) → IsInstanceTree modules places pins → JoinPins places pins (wires_of wires kinds)
  gathered-joined pins tree p less = subst (All (JoinsPins places pins p)) (its-wires p less) (join-pins modules places pins tree 4194304 p less)

  pub gathered-apart : (pins : List Pin) → IsInstanceTree modules places pins → EndApart (gathered places pins (wires_of wires kinds))
  gathered-apart pins tree = subst EndApart (all-gathered pins) (end-apart modules places pins tree 4194304)

  pub kinds-known : All (λ k. k < length wires) kinds
  kinds-known = All-from_get_or (λ k. k < length wires) kinds 0 (λ p below. omega (arith, (are.each p (omega (arith, below, are.size))).below, surveyed.wires_size))

-- what holds of lists holds of lists that are the same
pub carry : (P : List Place → List Pin → List ℕ → List (List LocalWire) → Type 0) (ps qs : List Place) (us vs : List Pin) (ks ls : List ℕ) (ws xs : List (List LocalWire))
    → ps ≡ qs → us ≡ vs → ks ≡ ls → ws ≡ xs → P qs vs ls xs → P ps us ks ws
carry P ps qs us vs ks ls ws xs p u k w holds = rw (p, u, k, w) holds

pub not-long : (b : Bool) (n m : ℕ) → (IsTrue b ↔ (2147483648 ≤ n)) → b ≡ false → n ≡ m → m < 2147483648
not-long b n m long none same = by_lt m 2147483648 (λ less. less) (λ more. absurd (true≢false (sym (long.1 (omega (arith, more, same))) ∙ none)))

pub in-places : (modules : List Module) (places : List Place) (pins : List Pin) → IsInstanceTree modules places pins → All (λ v. v.place < length places) pins
in-places modules places pins tree = subst (All (λ v. v.place < length places)) (sym tree.pins_are) (pins-of-all modules places (length places))

-- a walk with its wires is a flat design
pub is-flat : (modules : List Module) (top : Option (List ℕ)) (places : List Place) (pins : List Pin) (wires : List Wire) (count : ℕ) → All HasPortsOnce modules → All (λ v. IsShort v.bit) pins
    → elaborated modules top ≡ Ok (record { places = places; pins = pins; count = count }) → Lists ends_before (Contains (all_wires 4194304 modules places pins)) wires
    → length places < 2147483648 → length pins < 2147483648 → length wires < 2147483648 → IsFlat (record { places = places; pins = pins; wires = wires })
is-flat modules top places pins wires count once short built listed few_places few_pins few_wires =
    let d : Design = record { places = places; pins = pins; wires = wires } in
    let tree = elaborated_tree modules top (record { places = places; pins = pins; count = count }) built in
    record {
      is_design = flat_design modules top d once short (record { count = count; built = built; wires = listed });
      names = tree-forms modules places pins wires tree (top-name modules top (record { places = places; pins = pins; count = count }) built);
      few_places = few_places;
      few_pins = few_pins;
      few_wires = few_wires;
    }
