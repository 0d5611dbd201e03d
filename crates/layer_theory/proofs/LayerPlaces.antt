-- The numbers of a layering: one for each class, node and item.
use Rattle.std.specs.Prelude.{◌≡◌, ℕ, zero, suc, ◌<◌, ◌≤◌, ◌⊎◌, nat_lt, true, false, List, [], ◌∷◌, length, AllPairs, slice_index_or}
use Rattle.std.specs.List.{AllZip}
use Rattle.std.proofs.Common.{refl, sym, ◌∙◌, ap, subst, arith, inl, inr, eq-eqb, true≢false}
use Rattle.std.proofs.lemmas.Bool.{cases_lt}
use Rattle.std.proofs.lemmas.List.{get_or_default}
use Rattle.std.proofs.lemmas.Slice.Zip.{AllZip-long}
use Rattle.bud_base.specs.Paths.{item_at}
use Rattle.bud_base.specs.declared.ids.ArcId.{ArcId}
use Rattle.bud_base.specs.declared.ids.ItemId.{ItemId}
use Rattle.bud_design.specs.Arcs.{arc_at}
use Rattle.bud_design.specs.Layers.{IsNode, IsItem, StandsBefore, class_number, steps_before, node_before, item_before, IsLayerNode, IsLayerItem, IsProblemItem, Stands, IsLayering}
use Rattle.bud_design.specs.TimingPaths.{View}
use Rattle.bud_design.specs.declared.layers.Met.{Met}
use Rattle.bud_design.specs.declared.layers.Class.{Class}
use Rattle.bud_design.specs.declared.layers.LayerNode.{LayerNode}
use Rattle.bud_design.specs.declared.layers.LayerItem.{LayerItem}
use Rattle.bud_design.specs.declared.layers.Layered.{Layered}
use Rattle.bud_design.specs.declared.policies.Policy.{Policy}

-- where no element stands before one that is the same, the same element has one place
pub one-place : {X : Type 0} (Before Same : X → X → Type 0) (xs : List X) → ((x y : X) → Same x y → Before x y → ⊥) → AllPairs Before xs
    → (i j : ℕ) (d : X) → i < length xs → j < length xs → Same (slice_index_or xs i d) (slice_index_or xs j d) → Same (slice_index_or xs j d) (slice_index_or xs i d) → i ≡ j
one-place Before Same xs never rising i j d first second same back = elim (cases_lt i j) [
  | inl less ↦ absurd (never (slice_index_or xs i d) (slice_index_or xs j d) same (rising i j d less second))
  | inr most ↦ elim (cases_lt j i) [
    | inl less ↦ absurd (never (slice_index_or xs j d) (slice_index_or xs i d) back (rising j i d less first))
    | inr least ↦ omega (arith, most, least)
  ]
]

pub zip-at : {A B : Type 0} (R : A → B → Type 0) (xs : List A) (ys : List B) → AllZip R xs ys → (i : ℕ) (d : A) (e : B) → i < length xs → R (slice_index_or xs i d) (slice_index_or ys i e)
zip-at R [] [] zip i d e below = absurd (omega (arith, below))
zip-at R [] (y ∷ ys) zip i d e below = absurd zip
zip-at R (x ∷ xs) [] zip i d e below = absurd zip
zip-at R (x ∷ xs) (y ∷ ys) zip zero d e below = zip.0
zip-at R (x ∷ xs) (y ∷ ys) zip (suc i) d e below = zip-at R xs ys zip.1 i d e (omega (arith, below))

pub not_below : (n : ℕ) → nat_lt n n ≡ false
not_below n = grind arith

pub never_below : (m n : ℕ) → m ≡ n → nat_lt m n ≡ true → ⊥
never_below m n same less = absurd (grind (arith, same, less))

steps_before-same : (ms : List Met) → steps_before ms ms ≡ false
steps_before-same [] = refl
steps_before-same (m ∷ ms) = rw (not_below m.steps, eq-eqb m.steps m.steps refl) (steps_before-same ms)

-- no class stands before itself
pub StandsBefore-same : (w : View) (j k : Class) → j ≡ k → StandsBefore w j k → ⊥
StandsBefore-same w j k same stands =
    let here = subst (λ c. StandsBefore w j c) (sym same) stands in
    let less = here.first_is.first here.second here.second_is.begins in
    let more = here.second_is.first here.first here.first_is.begins in
    never here.first here.second less more here.before
  where
    never : (a b : ℕ) → a ≤ b → b ≤ a → (a < b) ⊎ ((a ≡ b) × (steps_before j.exceptions j.exceptions ≡ true)) → ⊥
    never a b less more (inl below) = omega (arith, less, more, below)
    never a b less more (inr both) = true≢false (sym both.1 ∙ steps_before-same j.exceptions)

abbrev pub SameNode : LayerNode → LayerNode → Type 0
SameNode x y = (x.«class».0 ≡ y.«class».0) × (x.pin.0 ≡ y.pin.0)

node_before-same : (x y : LayerNode) → SameNode x y → node_before x y ≡ true → ⊥
node_before-same x y same before = true≢false (sym before ∙ rw (same.0, same.1, not_below y.«class».0, not_below y.pin.0, eq-eqb y.«class».0 y.«class».0 refl) refl)

abbrev pub SameItem : LayerItem → LayerItem → Type 0
SameItem x y = (x.«class».0 ≡ y.«class».0) × (x.arc.0 ≡ y.arc.0)

item_before-same : (x y : LayerItem) → SameItem x y → item_before x y ≡ true → ⊥
item_before-same x y same before = true≢false (sym before ∙ rw (same.0, same.1, not_below y.«class».0, not_below y.arc.0, eq-eqb y.«class».0 y.«class».0 refl) refl)

module _ (w : View) (policy : Policy) (layered : Layered) (layering : IsLayering w policy layered) where
  -- the item of a number, and what it stands for
  abbrev pub layer_item : ItemId → LayerItem
  layer_item i = slice_index_or layered.items i.0 (record { arc = record { 0 = 0 }; «class» = record { 0 = 0 } })

  pub item-below : (i : ItemId) → i.0 < length layered.problem.items → i.0 < length layered.items
  item-below i within = omega (arith, within, AllZip-long (IsProblemItem w policy layered) layered.items layered.problem.items layering.problem_items)

  pub item-stands : (i : ItemId) → i.0 < length layered.problem.items → IsProblemItem w policy layered (layer_item i) (item_at layered.problem.items i.0)
  item-stands i within =
      zip-at (IsProblemItem w policy layered) layered.items layered.problem.items layering.problem_items i.0 (record { arc = record { 0 = 0 }; «class» = record { 0 = 0 } })
      (item_at [] 0) (item-below i within)

  pub item-is : (i : ItemId) → i.0 < length layered.problem.items → IsLayerItem w layered.classes (layer_item i)
  item-is i within = layering.items.sound i.0 (record { arc = record { 0 = 0 }; «class» = record { 0 = 0 } }) (item-below i within)

  -- equal classes have one number
  pub class-one : (c e : ℕ) → c < length layered.classes → e < length layered.classes → class_number layered.classes c ≡ class_number layered.classes e → c ≡ e
  class-one c e first second same =
      one-place (StandsBefore w) (λ j k. j ≡ k) layered.classes (StandsBefore-same w) layering.classes.rising c e (class_number [] 0) first second same (sym same)

  abbrev pub StandsAt : ℕ → ℕ → Class → Type 0
  StandsAt n v k = Stands layered.classes layered.nodes n v k

  node-read : (n v : ℕ) (k : Class) (stands : StandsAt n v k) (d : LayerNode) → slice_index_or layered.nodes n d ≡ stands.node
  node-read n v k stands d = get_or_default layered.nodes n d stands.node stands.number ∙ stands.node_is

  node-class : (n v : ℕ) (k : Class) (stands : StandsAt n v k) → stands.node.«class».0 < length layered.classes
  node-class n v k stands = (subst (IsLayerNode w layered.classes) stands.node_is (layering.nodes.sound n stands.node stands.number)).number

  -- a node's number stands for a node
  pub StandsAt-node : (n v : ℕ) (k : Class) → StandsAt n v k → IsNode w v k
  StandsAt-node n v k stands =
      let node = (subst (IsLayerNode w layered.classes) stands.node_is (layering.nodes.sound n stands.node stands.number)).node in
      subst (IsNode w v) stands.class_is (subst (λ u. IsNode w u (class_number layered.classes stands.node.«class».0)) stands.pin_is node)

  -- for one pin in one class
  pub StandsAt-one_state : (n v u : ℕ) (k j : Class) → StandsAt n v k → StandsAt n u j → (v ≡ u) × (k ≡ j)
  StandsAt-one_state n v u k j first second =
      let same : first.node ≡ second.node = sym first.node_is ∙ node-read n u j second first.node in (
        sym first.pin_is ∙ (ap (λ (x : LayerNode). x.pin.0) same ∙ second.pin_is),
        sym first.class_is ∙ (ap (λ (x : LayerNode). class_number layered.classes x.«class».0) same ∙ second.class_is),
      )

  -- and a pin in a class has one number
  pub StandsAt-one_number : (n m v : ℕ) (k : Class) → StandsAt n v k → StandsAt m v k → n ≡ m
  StandsAt-one_number n m v k first second =
      let d = first.node in
      let class_same = class-one first.node.«class».0 second.node.«class».0 (node-class n v k first) (node-class m v k second) (first.class_is ∙ sym second.class_is) in
      let pin_same = first.pin_is ∙ sym second.pin_is in
      let at_first = node-read n v k first d in
      let at_second = node-read m v k second d in
      one-place (λ x y. node_before x y ≡ true) SameNode layered.nodes node_before-same layering.nodes.rising n m d first.number second.number
      (subst (λ x. SameNode x (slice_index_or layered.nodes m d)) (sym at_first) (subst (SameNode first.node) (sym at_second) (class_same, pin_same)))
      (subst (λ x. SameNode (slice_index_or layered.nodes m d) x) (sym at_first) (subst (λ x. SameNode x first.node) (sym at_second) (sym class_same, sym pin_same)))

  -- each live class has a number, and so has each node
  pub class-placed : (v : ℕ) (k : Class) → IsNode w v k → (c : ℕ) × ((c < length layered.classes) × (class_number layered.classes c ≡ k))
  class-placed v k node =
      let there = layering.classes.complete k (v, node) in
      (there.0, (there.1, get_or_default layered.classes there.0 (class_number [] 0) k there.1 ∙ there.2))

  pub node-placed : (v : ℕ) (k : Class) → IsNode w v k → (n : ℕ) × StandsAt n v k
  node-placed v k node =
      let c = class-placed v k node in
      let x : LayerNode = record { pin = record { 0 = v }; «class» = record { 0 = c.0 } } in
      let there = layering.nodes.complete x (record { number = c.1.0; node = subst (IsNode w v) (sym c.1.1) node }) in
      (there.0, record { number = there.1; node = x; node_is = there.2; pin_is = refl; class_is = c.1.1 })

  -- so has each item
  pub item-placed : (x : ArcId) (k : Class) → IsItem w x k → IsNode w (arc_at w.arcs x.0).from k
      → (i : ItemId) × ((i.0 < length layered.problem.items) × (((layer_item i).arc ≡ x) × (class_number layered.classes (layer_item i).«class».0 ≡ k)))
  item-placed x k item node =
      let c = class-placed (arc_at w.arcs x.0).from k node in
      let y : LayerItem = record { arc = x; «class» = record { 0 = c.0 } } in
      let there = layering.items.complete y (record { number = c.1.0; item = subst (IsItem w x) (sym c.1.1) item }) in
      let read = get_or_default layered.items there.0 (record { arc = record { 0 = 0 }; «class» = record { 0 = 0 } }) y there.1 ∙ there.2 in (
        record { 0 = there.0 },
        (
          omega (arith, there.1, AllZip-long (IsProblemItem w policy layered) layered.items layered.problem.items layering.problem_items),
          (ap (λ (z : LayerItem). z.arc) read, ap (λ (z : LayerItem). class_number layered.classes z.«class».0) read ∙ c.1.1),
        ),
      )

  -- items of one arc and one class have one number
  pub item-one : (i j : ItemId) → i.0 < length layered.problem.items → j.0 < length layered.problem.items → (layer_item i).arc ≡ (layer_item j).arc
      → class_number layered.classes (layer_item i).«class».0 ≡ class_number layered.classes (layer_item j).«class».0 → i.0 ≡ j.0
  item-one i j first second arc_same class_is_same =
      let arc_number = ap (λ (x : ArcId). x.0) arc_same in
      let class_same = class-one (layer_item i).«class».0 (layer_item j).«class».0 (item-is i first).number (item-is j second).number class_is_same in
      one-place (λ x y. item_before x y ≡ true) SameItem layered.items item_before-same layering.items.rising i.0 j.0 (record { arc = record { 0 = 0 }; «class» = record { 0 = 0 } })
      (item-below i first) (item-below j second) (class_same, arc_number) (sym class_same, sym arc_number)

  -- what a node's number stands for, by a read
  pub StandsAt-from_read : (n : ℕ) (d : LayerNode) → n < length layered.nodes
      → StandsAt n (slice_index_or layered.nodes n d).pin.0 (class_number layered.classes (slice_index_or layered.nodes n d).«class».0)
  StandsAt-from_read n d below = record {
    number = below;
    node = slice_index_or layered.nodes n d;
    node_is = get_or_default layered.nodes n (slice_index_or layered.nodes n d) d below;
    pin_is = refl;
    class_is = refl;
  }
