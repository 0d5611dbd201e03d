use Rattle.std.proofs.Common.{◌≡◌, ◌<◌, ℕ, List, length, map, sym, ◌∙◌, ap, subst, arith}
use Rattle.std.specs.Prelude.{All}
use Rattle.std.specs.List.{AllZip}
use Rattle.std.proofs.lemmas.List.{length-map}
use Rattle.bud_design.specs.declared.layers.Class.{Class}
use Rattle.bud_design.specs.declared.clocks.Launch.{Launch}
use Rattle.bud_design.specs.Layers.{class_number}
use Rattle.state_numbers.specs.declared.placed.Placed.{Placed}
use Rattle.state_numbers.specs.declared.ranks.KindKey.{KindKey}
use Rattle.path_classes.specs.Placing.{classes_of, node_of, item_of, start_of, IsItemAt, AreNodeEnds, HasClocks}
use Rattle.path_classes.specs.Layering.{AreRising}
use Rattle.path_classes.proofs.LayeredParts.{layered-same}
use Rattle.path_classes.proofs.layering.layered_from.Goals as goal

pub live_classes-requires : goal.live_classes-requires
live_classes-requires c = subst (λ ks. All (λ (x : KindKey). x.kind < length ks) c.args.keys.now) (sym c.as_slice-kinds.ensures) c.requires.keys

pub problem_ends-requires-clause-pins : goal.problem_ends-requires-clause-pins
problem_ends-requires-clause-pins c = subst (λ xs. All (λ (x : Placed). x.number < length c.args.links.now.first) xs) (sym c.as_slice-nodes.ensures.value) c.requires.places.pins_below

pub problem_ends-requires-clause-classes : goal.problem_ends-requires-clause-classes
problem_ends-requires-clause-classes c =
    let long : length c.args.keys.now ≡ length c.as_slice-order.result.now
    = sym (ap (λ (ks : List Class). length ks) (c.as_slice-order.ensures.value ∙ c.in_ok-classes.ensures) ∙ length-map c.args.keys.now (λ (x : KindKey). class_number c.as_slice-kinds.result.now x.kind)) in
    subst (λ xs. All (λ (x : Placed). x.«class» < length c.as_slice-order.result.now) xs) (sym c.as_slice-nodes.ensures.value)
    (subst (λ n. All (λ (x : Placed). x.«class» < n) c.args.places.now.nodes.items) long c.requires.places.classes_below)

pub problem_ends-requires-clause-clocks : goal.problem_ends-requires-clause-clocks
problem_ends-requires-clause-clocks c =
    subst (HasClocks c.args.all.now) (sym (c.as_slice-order.ensures.value ∙ (c.in_ok-classes.ensures ∙ ap (λ ks. classes_of ks c.args.keys.now) c.as_slice-kinds.ensures))) c.requires.places.clocks

pub problem_items-requires-clause-rising : goal.problem_items-requires-clause-rising
problem_items-requires-clause-rising c = subst AreRising (sym c.as_slice-nodes.ensures.value) c.requires.places.rising

pub problem_items-requires-clause-arcs : goal.problem_items-requires-clause-arcs
problem_items-requires-clause-arcs c = subst (λ xs. All (λ (x : Placed). x.number < length c.args.arcs.now) xs) (sym c.as_slice-items.ensures.value) c.requires.places.arcs_below

pub problem_starts-requires : goal.problem_starts-requires
problem_starts-requires c =
    subst (λ xs. All (λ (x : Placed). x.with < length c.as_slice-launches.result.now) xs) (sym c.as_slice-begun.ensures.value)
    (subst (λ (ls : List Launch). All (λ (x : Placed). x.with < length ls) c.args.places.now.starts.items) (sym c.as_slice-launches.ensures) c.requires.places.launches_below)

pub returns : goal.returns
returns c =
    let kinds = c.in_ok-classes.ensures ∙ ap (λ ks. classes_of ks c.args.keys.now) c.as_slice-kinds.ensures in
    let order = c.as_slice-order.ensures.value ∙ kinds in
    let nodes = c.as_slice-nodes.ensures.value in
    let items = c.as_slice-items.ensures.value in
    record {
      problem_items = c.in_ok-joined.joined.items;
      ends = c.in_ok-ends.ends.items;
      items_are = subst (λ xs. AllZip (IsItemAt c.args.arcs.now c.args.places.now.nodes.items) xs c.in_ok-joined.joined.items) items
          (subst (λ ns. AllZip (IsItemAt c.args.arcs.now ns) c.as_slice-items.result.now c.in_ok-joined.joined.items) nodes c.in_ok-joined.ensures);
      ends_are = subst (λ ks. AreNodeEnds c.args.all.now ks c.args.places.now.nodes.items (length c.args.places.now.nodes.items) c.in_ok-ends.ends.items) order
          (subst (λ ns. AreNodeEnds c.args.all.now c.as_slice-order.result.now ns (length ns) c.in_ok-ends.ends.items) nodes c.in_ok-ends.ensures);
      is = layered-same _ _ _ _ _ _ _ _ _ _ _ _ _ _ (c.in-Ok.ensures.1 ∙ ap (λ (xs : List Placed). length xs) nodes) c.from_vec.ensures
          (c.from_vec-2.ensures ∙ (c.in_ok-starts.ensures ∙ (ap (λ ls. map (start_of ls) c.as_slice-begun.result.now) c.as_slice-launches.ensures ∙ ap (map (start_of c.args.all.now.launches)) c.as_slice-begun.ensures.value)))
          c.from_vec-3.ensures (c.from_vec-4.ensures ∙ kinds) (c.from_vec-5.ensures ∙ (c.in_ok-pins.ensures ∙ ap (map node_of) nodes)) (c.from_vec-6.ensures ∙ (c.in_ok-edges.ensures ∙ ap (map item_of) items));
    }
