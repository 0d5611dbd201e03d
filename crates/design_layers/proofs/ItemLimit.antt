-- The items of a layering are the items of the design.
use Rattle.std.proofs.Common.{◌≡◌, ℕ, ◌<◌, ◌≤◌, true, [], length, get_or, map, nat_lt, refl, sym, ◌∙◌, ap, arith}
use Rattle.std.specs.Prelude.{All, AllPairs}
use Rattle.std.proofs.lemmas.List.{get_or-map, length-map}
use Rattle.std.proofs.lemmas.List.Elements.{All-map}
use Rattle.std.proofs.lemmas.Slice.Zip.{AllZip-long}
use Rattle.bud_base.specs.declared.ids.ArcId.{ArcId}
use Rattle.bud_base.specs.declared.ids.ItemId.{ItemId}
use Rattle.bud_design.specs.Layers.{IsItem, IsProblemItem, IsLayering, class_number}
use Rattle.bud_design.specs.TimingPaths.{View}
use Rattle.bud_design.specs.declared.layers.Class.{Class}
use Rattle.bud_design.specs.declared.layers.LayerItem.{LayerItem}
use Rattle.bud_design.specs.declared.layers.Layered.{Layered}
use Rattle.bud_design.specs.declared.policies.Policy.{Policy}
use Rattle.layer_theory.specs.LayerAnswers.{HasManyItems}
use Rattle.layer_theory.proofs.LayerCounts.{at_most}
use Rattle.layer_theory.proofs.LayerOrder.{IsNode-before_item}
use Rattle.layer_theory.proofs.LayerPlaces as places
use Rattle.layer_theory.proofs.LayerPlaces.{one-place}

module _ (w : View) (policy : Policy) (layered : Layered) (layering : IsLayering w policy layered) (rise : AllPairs (λ e f. nat_lt e.number f.number ≡ true) w.all.exceptions)
    (apart : All (λ l. All (λ x. l.pin.0 ≡ x.pin.0 → ⊥) w.all.captures) w.all.launches) where
  items-long : length layered.problem.items ≡ length layered.items
  items-long = AllZip-long (IsProblemItem w policy layered) layered.items layered.problem.items layering.problem_items

  abbrev as_pair : LayerItem → ArcId × Class
  as_pair x = (x.arc, class_number layered.classes x.«class».0)

  abbrev none : LayerItem
  none = record { arc = record { 0 = 0 }; «class» = record { 0 = 0 } }

  -- items of the layering are different items of the design
  pub HasManyItems-of : 4194304 < length layered.items → HasManyItems w
  HasManyItems-of more = record {
    xs = map as_pair layered.items;
    such = All-map (λ (x : ArcId × Class). IsItem w x.0 x.1) as_pair layered.items (λ k d below. (layering.items.sound k d below).item);
    different = λ i j d before below same.
        let last : j < length layered.items = omega (arith, below, length-map layered.items as_pair) in
        let first : i < length layered.items = omega (arith, last, before) in
        let equal = sym (get_or-map as_pair layered.items i none d first) ∙ (same ∙ get_or-map as_pair layered.items j none d last) in
        let one = places.item-one w policy layered layering (record { 0 = i }) (record { 0 = j }) (omega (arith, first, items-long)) (omega (arith, last, items-long)) (ap (λ x. x.0) equal) (ap (λ x. x.1) equal) in
        omega (arith, before, one);
    more = omega (arith, more, length-map layered.items as_pair);
  }

  abbrev Placed : ArcId × Class → Type 0
  Placed x = (i : ItemId) × ((i.0 < length layered.problem.items) × (((places.layer_item w policy layered layering i).arc ≡ x.0)
      × (class_number layered.classes (places.layer_item w policy layered layering i).«class».0 ≡ x.1)))

  placed : (x : ArcId × Class) → IsItem w x.0 x.1 → Placed x
  placed x item = places.item-placed w policy layered layering x.0 x.1 item (IsNode-before_item w rise apart x.0 x.1 item)

  -- and each item of the design is one of the layering
  pub HasFewItems-of : length layered.items ≤ 4194304 → HasManyItems w → ⊥
  HasFewItems-of few many =
      let d : ArcId × Class = (record { 0 = 0 }, class_number [] 0) in
      let here : (i : ℕ) → i < length many.xs → Placed (get_or many.xs i d) = λ i below. placed (get_or many.xs i d) (many.such i d below) in
      let most = at_most (length many.xs) (length layered.problem.items) (λ i below. (here i below).0.0) (λ i below. (here i below).1.0)
      (λ i j first second same.
      let equal = one (get_or many.xs i d) (get_or many.xs j d) (here i first) (here j second) same in
      one-place (λ (x y : ArcId × Class). x ≡ y → ⊥) (λ (x y : ArcId × Class). x ≡ y) many.xs (λ x y equal other. other equal) many.different i j d first second equal (sym equal)) in
      omega (arith, few, most, many.more, items-long)
    where
      one : (x y : ArcId × Class) → (a : Placed x) → (b : Placed y) → a.0.0 ≡ b.0.0 → x ≡ y
      one x y a b same =
          let arcs : x.0 ≡ y.0 = sym a.1.1.0 ∙ (ap (λ n. (places.layer_item w policy layered layering (record { 0 = n })).arc) same ∙ b.1.1.0) in
          let classes : x.1 ≡ y.1 = sym a.1.1.1 ∙ (ap (λ n. class_number layered.classes (places.layer_item w policy layered layering (record { 0 = n })).«class».0) same ∙ b.1.1.1) in
          pair-same x.0 y.0 x.1 y.1 arcs classes
        where
          pair-same : (a b : ArcId) (j k : Class) → a ≡ b → j ≡ k → ◌≡◌ {A = ArcId × Class} (a, j) (b, k)
          pair-same a b j k arcs classes = rw (arcs, classes) refl
