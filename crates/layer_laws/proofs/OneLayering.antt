-- A design has one layering under a policy.
use Rattle.std.specs.Prelude.{◌≡◌, ℕ, nat_lt, ℤ, ◌+ℤ◌, Bool, List, [], ◌∷◌, length, slice_index_or}
use Rattle.std.specs.List.{AllZip}
use Rattle.std.proofs.Common.{sym, ◌∙◌, refl, ap, subst}
use Rattle.bud_base.specs.declared.problems.Item.{Item}
use Rattle.bud_base.specs.declared.problems.Start.{Start}
use Rattle.bud_base.specs.declared.problems.End.{End}
use Rattle.bud_design.specs.Lists.{Lists}
use Rattle.bud_design.specs.Layers.{node_before, item_before, IsLayerNode, IsLayerItem, IsProblemItem, IsProblemStart, IsProblemEnd, IsLayering}
use Rattle.bud_design.specs.TimingPaths.{View}
use Rattle.bud_design.specs.declared.layers.LayerNode.{LayerNode}
use Rattle.bud_design.specs.declared.layers.LayerItem.{LayerItem}
use Rattle.bud_design.specs.declared.layers.Layered.{Layered}
use Rattle.bud_design.specs.declared.policies.Policy.{Policy}
use Rattle.bud_design.proofs.NameLaws.{cons-both}
use Rattle.bud_design.proofs.StrictOrders.{pins_before-never, pins_before-trans, number_before-never, number_before-trans}
use Rattle.bud_design.proofs.TableLaws.{table-same}
use Rattle.layer_theory.proofs.LayerPlaces as places
use Rattle.layer_laws.proofs.OneClasses.{classes-same}

nodes-same : (P : LayerNode → Type 0) (xs ys : List LayerNode) → Lists node_before P xs → Lists node_before P ys → xs ≡ ys
nodes-same =
    table-same node_before (λ x. pins_before-never x.«class».0 x.pin.0)
    (λ x y z first second. pins_before-trans x.«class».0 x.pin.0 y.«class».0 y.pin.0 z.«class».0 z.pin.0 first second)

items-same : (P : LayerItem → Type 0) (xs ys : List LayerItem) → Lists item_before P xs → Lists item_before P ys → xs ≡ ys
items-same =
    table-same item_before (λ x. pins_before-never x.«class».0 x.arc.0)
    (λ x y z first second. pins_before-trans x.«class».0 x.arc.0 y.«class».0 y.arc.0 z.«class».0 z.arc.0 first second)

starts-same : (P : Start → Type 0) (xs ys : List Start) → Lists (λ s t. nat_lt s.node.0 t.node.0) P xs → Lists (λ s t. nat_lt s.node.0 t.node.0) P ys → xs ≡ ys
starts-same =
    table-same (λ s t. nat_lt s.node.0 t.node.0) (λ s. number_before-never s.node.0)
    (λ s t u first second. number_before-trans s.node.0 t.node.0 u.node.0 first second)

ends-same : (P : End → Type 0) (xs ys : List End) → Lists (λ e f. nat_lt e.node.0 f.node.0) P xs → Lists (λ e f. nat_lt e.node.0 f.node.0) P ys → xs ≡ ys
ends-same =
    table-same (λ e f. nat_lt e.node.0 f.node.0) (λ e. number_before-never e.node.0)
    (λ e f g first second. number_before-trans e.node.0 f.node.0 g.node.0 first second)

-- two lists beside a third that decides them
zip-same : {A B : Type 0} (R S : A → B → Type 0) → ((x : A) (y z : B) → R x y → S x z → y ≡ z) → (xs : List A) (ys zs : List B) → AllZip R xs ys → AllZip S xs zs → ys ≡ zs
zip-same R S one [] [] [] first second = refl
zip-same R S one [] [] (z ∷ zs) first second = absurd second
zip-same R S one [] (y ∷ ys) zs first second = absurd first
zip-same R S one (x ∷ xs) [] zs first second = absurd first
zip-same R S one (x ∷ xs) (y ∷ ys) [] first second = absurd second
zip-same R S one (x ∷ xs) (y ∷ ys) (z ∷ zs) first second = cons-both y z ys zs (one x y z first.0 second.0) (zip-same R S one xs ys zs first.1 second.1)

-- a list of the ones is a list of the others, where the two are the same
lists-by : {X : Type 0} (before : X → X → Bool) (P Q : X → Type 0) → ((x : X) → P x → Q x) → ((x : X) → Q x → P x) → (xs : List X) → Lists before P xs → Lists before Q xs
lists-by before P Q here there xs lists = record {
  rising = lists.rising;
  sound = λ k d below. here (slice_index_or xs k d) (lists.sound k d below);
  complete = λ x is. lists.complete x (there x is);
}

greatest-same : (m n g h extra : ℤ) → m ≡ n → g ≡ m +ℤ extra → h ≡ n +ℤ extra → g ≡ h
greatest-same m n g h extra same first second = first ∙ (ap (λ z. z +ℤ extra) same ∙ sym second)

Item-same : (a b : Item) → a.from.0 ≡ b.from.0 → a.to.0 ≡ b.to.0 → a.least ≡ b.least → a.greatest ≡ b.greatest → a.weight ≡ b.weight → a ≡ b
Item-same a b from to least greatest weight =
    ap (λ (n : ℕ). record a { from = record { 0 = n } }) from
    ∙ (ap (λ (n : ℕ). record a { from = b.from; to = record { 0 = n } }) to
    ∙ (ap (λ z. record a { from = b.from; to = b.to; least = z }) least
    ∙ (ap (λ z. record a { from = b.from; to = b.to; least = b.least; greatest = z }) greatest
    ∙ ap (λ n. record b { weight = n }) weight)))

-- two layerings of the same classes, nodes and items
module _ (w : View) (policy : Policy) (a b : Layered) (first : IsLayering w policy a) (second : IsLayering w policy b) where
  classes_are : b.classes ≡ a.classes
  classes_are = classes-same w b.classes a.classes second.classes first.classes

  nodes_are : b.nodes ≡ a.nodes
  nodes_are =
      nodes-same (IsLayerNode w a.classes) b.nodes a.nodes (subst (λ cs. Lists node_before (IsLayerNode w cs) b.nodes) classes_are second.nodes) first.nodes

  items_are : b.items ≡ a.items
  items_are =
      items-same (IsLayerItem w a.classes) b.items a.items (subst (λ cs. Lists item_before (IsLayerItem w cs) b.items) classes_are second.items) first.items

  -- the other's classes and nodes replaced
  abbrev other : Layered
  other = record b { classes = a.classes; nodes = a.nodes }

  replaced : (P : Layered → Type 0) → P b → P other
  replaced P given = subst (λ ns. P (record b { classes = a.classes; nodes = ns })) nodes_are (subst (λ cs. P (record b { classes = cs })) classes_are given)

  item-same : (x : LayerItem) (i j : Item) → IsProblemItem w policy a x i → IsProblemItem w policy other x j → i ≡ j
  item-same x i j one two =
      Item-same i j
      (places.StandsAt-one_number w policy a first i.from.0 j.from.0 _ _ one.from two.from)
      (places.StandsAt-one_number w policy a first i.to.0 j.to.0 _ _ one.to two.to)
      (one.least ∙ sym two.least)
      (greatest-same i.least j.least i.greatest j.greatest _ (one.least ∙ sym two.least) one.greatest two.greatest)
      (one.weight ∙ sym two.weight)

  problem_items_are : a.problem.items ≡ b.problem.items
  problem_items_are =
      zip-same (IsProblemItem w policy a) (IsProblemItem w policy other) item-same a.items a.problem.items b.problem.items first.problem_items
      (subst (λ xs. AllZip (IsProblemItem w policy other) xs b.problem.items) items_are
      (replaced (λ l. AllZip (IsProblemItem w policy l) b.items b.problem.items) second.problem_items))

  -- starts and ends speak of classes and nodes alone
  start-here : (s : Start) → IsProblemStart w other s → IsProblemStart w a s
  start-here s is = record { launch = is.launch; number = is.number; node = is.node; offset = is.offset }

  start-there : (s : Start) → IsProblemStart w a s → IsProblemStart w other s
  start-there s is = record { launch = is.launch; number = is.number; node = is.node; offset = is.offset }

  end-here : (e : End) → IsProblemEnd w other e → IsProblemEnd w a e
  end-here e is = record { pin = is.pin; «class» = is.«class»; node = is.node; require = is.require }

  end-there : (e : End) → IsProblemEnd w a e → IsProblemEnd w other e
  end-there e is = record { pin = is.pin; «class» = is.«class»; node = is.node; require = is.require }

  problem_starts_are : a.problem.starts ≡ b.problem.starts
  problem_starts_are =
      starts-same (IsProblemStart w a) a.problem.starts b.problem.starts first.starts
      (lists-by (λ s t. nat_lt s.node.0 t.node.0) (IsProblemStart w other) (IsProblemStart w a) start-here start-there b.problem.starts
      (replaced (λ l. Lists (λ s t. nat_lt s.node.0 t.node.0) (IsProblemStart w l) b.problem.starts) second.starts))

  problem_ends_are : a.problem.ends ≡ b.problem.ends
  problem_ends_are =
      ends-same (IsProblemEnd w a) a.problem.ends b.problem.ends first.ends
      (lists-by (λ e f. nat_lt e.node.0 f.node.0) (IsProblemEnd w other) (IsProblemEnd w a) end-here end-there b.problem.ends
      (replaced (λ l. Lists (λ e f. nat_lt e.node.0 f.node.0) (IsProblemEnd w l) b.problem.ends) second.ends))

  pub layerings-same : a ≡ b
  layerings-same =
      ap (λ n. record a { problem = record a.problem { nodes = n } }) (first.node_count ∙ (ap length (sym nodes_are) ∙ sym second.node_count))
      ∙ (ap (λ xs. record a { problem = record a.problem { nodes = b.problem.nodes; items = xs } }) problem_items_are
      ∙ (ap (λ xs. record a { problem = record b.problem { starts = xs; ends = a.problem.ends } }) problem_starts_are
      ∙ (ap (λ xs. record a { problem = record b.problem { ends = xs } }) problem_ends_are
      ∙ (ap (λ xs. record a { problem = b.problem; classes = xs }) (sym classes_are)
      ∙ (ap (λ xs. record a { problem = b.problem; classes = b.classes; nodes = xs }) (sym nodes_are)
      ∙ (ap (λ xs. record a { problem = b.problem; classes = b.classes; nodes = b.nodes; items = xs }) (sym items_are)
      ∙ ap (λ n. record b { version = n }) (first.version ∙ sym second.version)))))))

pub one_layering : (w : View) (policy : Policy) (a b : Layered) → IsLayering w policy a → IsLayering w policy b → a ≡ b
one_layering w policy a b first second = layerings-same w policy a b first second
