-- A graph's arcs as items: they lead inside the top, between pins of the design, and never back.
use Rattle.std.proofs.Common.{◌≡◌, ℕ, ◌<◌, ◌+◌, List, [], ◌∷◌, ◌++◌, length, map, drop, sym, ◌∙◌, ap, subst, arith}
use Rattle.std.proofs.lemmas.List.{drop_more, append_assoc, get_or-map, length-map}
use Rattle.bud_base.specs.Paths.{item_at, Joins}
use Rattle.bud_base.specs.declared.ids.ItemId.{ItemId}
use Rattle.bud_base.specs.declared.problems.Item.{Item}
use Rattle.bud_design.specs.Arcs.{Arc, Graph, arc_at, Leads}
use Rattle.bud_design.specs.ConstraintRules.{AreSoundConstraints}
use Rattle.bud_design.specs.DesignRules.{IsDesign}
use Rattle.bud_design.specs.Designs.{Design}
use Rattle.bud_design.specs.TimingPaths.{launch_at}
use Rattle.bud_design.specs.TimingRules.{IsSoundGraph}
use Rattle.bud_design.specs.declared.clocks.Constraints.{Constraints}
use Rattle.bud_design.proofs.ArcOrders.{Leads-never_back}
use Rattle.bud_design.proofs.Lineages.{is_inside-top}
use Rattle.class_ends.specs.Asks.{HasSoundConstraints}
use Rattle.path_classes.specs.Layering.{HasNoRing}
use Rattle.path_states.specs.Exploring.{PinsBelow}
use Rattle.state_laws.specs.Views.{HasArcs}
use Rattle.design_layers.specs.Views.{whole_view, arc_item}

-- one arc more
pub arc_items-more : (arcs : List Arc) (old new : List Item) (x : Item) (n : ℕ) → n < length arcs → map arc_item arcs ≡ old ++ map arc_item (drop n arcs) → new ≡ old ++ x ∷ []
    → x ≡ arc_item (arc_at arcs n) → map arc_item arcs ≡ new ++ map arc_item (drop (n + 1) arcs)
arc_items-more arcs old new x n below built is here =
    built
    ∙ (ap (λ rest. old ++ map arc_item rest) (drop_more arcs n (arc_at [] 0) below)
    ∙ (ap (λ y. old ++ y ∷ map arc_item (drop (n + 1) arcs)) (sym here)
    ∙ (sym (append_assoc old (x ∷ []) (map arc_item (drop (n + 1) arcs))) ∙ ap (λ front. front ++ map arc_item (drop (n + 1) arcs)) (sym is))))

item-is : (arcs : List Arc) (a : ℕ) → a < length arcs → item_at (map arc_item arcs) a ≡ arc_item (arc_at arcs a)
item-is arcs a below = get_or-map arc_item arcs a (arc_at [] 0) (item_at [] 0) below

module _ (d : Design) (g : Graph) (all : Constraints) (design : IsDesign d) (sound : IsSoundGraph d g) where
  below-arcs : (a : ℕ) → a < length (map arc_item g.arcs) → a < length g.arcs
  below-arcs a below = omega (arith, below, length-map g.arcs arc_item)

  pub HasArcs-whole : HasArcs (whole_view d g all) (map arc_item g.arcs)
  HasArcs-whole = record {
    count = sym (length-map g.arcs arc_item);
    from = λ a below. sym (ap (λ (x : Item). x.from.0) (item-is g.arcs a (below-arcs a below)));
    to = λ a below. sym (ap (λ (x : Item). x.to.0) (item-is g.arcs a (below-arcs a below)));
    least = λ a below. sym (ap (λ (x : Item). x.least) (item-is g.arcs a (below-arcs a below)));
    inside = λ a below. is_inside-top d.places design.parents (arc_at g.arcs a).home (sound.arcs a (arc_at [] 0) below).home;
  }

  pub PinsBelow-whole : AreSoundConstraints (length d.pins) all → PinsBelow (length d.pins) (map arc_item g.arcs) all
  PinsBelow-whole constraints = record {
    from = λ a below. omega (arith, (sound.arcs a (arc_at [] 0) (below-arcs a below)).from, ap (λ (x : Item). x.from.0) (item-is g.arcs a (below-arcs a below)));
    to = λ a below. omega (arith, (sound.arcs a (arc_at [] 0) (below-arcs a below)).to, ap (λ (x : Item). x.to.0) (item-is g.arcs a (below-arcs a below)));
    launches = λ n below. constraints.launch_pins n (launch_at [] 0) below;
  }

  Leads-joined : (is : List ItemId) (v w : ℕ) → Joins (map arc_item g.arcs) v is w → Leads g.arcs v (map (λ (i : ItemId). record { 0 = i.0 }) is) w
  Leads-joined [] v w joined = joined
  Leads-joined (i ∷ is) v w joined =
      let below = below-arcs i.0 joined.0 in
      let item = item-is g.arcs i.0 below in (
        below,
        sym (ap (λ (x : Item). x.from.0) item) ∙ joined.1,
        Leads-joined is (arc_at g.arcs i.0).to w (subst (λ u. Joins (map arc_item g.arcs) u is w) (ap (λ (x : Item). x.to.0) item) joined.2),
      )

  -- the order of the pins forbids rings
  pub HasNoRing-whole : HasNoRing (map arc_item g.arcs)
  HasNoRing-whole x xs v joined =
      let below = below-arcs x.0 joined.0 in
      let from : (arc_at g.arcs x.0).from ≡ v = sym (ap (λ (y : Item). y.from.0) (item-is g.arcs x.0 below)) ∙ joined.1 in
      Leads-never_back (length d.pins) g.arcs g.order sound.order (λ i within. (sound.arcs i (arc_at [] 0) within).to) (record { 0 = x.0 }) (map (λ (i : ItemId). record { 0 = i.0 }) xs) v
      (omega (arith, from, (sound.arcs x.0 (arc_at [] 0) below).from)) (Leads-joined (x ∷ xs) v v joined)

pub HasSoundConstraints-of : (pins : ℕ) (all : Constraints) → AreSoundConstraints pins all → HasSoundConstraints all
HasSoundConstraints-of pins all sound = record {
  clocks = sound.clocks;
  capture_clocks = sound.capture_clocks;
  amounts = sound.amounts;
  kinds = sound.kinds;
  numbers = sound.numbers;
}
