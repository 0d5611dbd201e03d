use Rattle.std.proofs.Common.{◌≡◌, ◌<◌, ℕ, Bool, List, length, map, sym, ◌∙◌, ap, subst, arith}
use Rattle.std.specs.Prelude.{All}
use Rattle.bud_base.specs.Leaving.{AreLinks}
use Rattle.bud_design.specs.declared.clocks.Capture.{Capture}
use Rattle.class_ends.specs.Asks.{capture_item}
use Rattle.path_states.specs.Tables.{table_of}
use Rattle.path_states.specs.Exploring.{PinsBelow}
use Rattle.state_numbers.specs.Ranks.{AreRanked}
use Rattle.state_numbers.specs.declared.ranks.KindKey.{KindKey}
use Rattle.path_classes.specs.Placing.{EndsWithin}
use Rattle.path_classes.specs.Layering.{CanLayer, ArePlaces, IsLayeredFrom}
use Rattle.path_classes.proofs.TableFacts.{EndsWithin-of}
use Rattle.path_classes.proofs.CanLayers.{CanLayer-of}
use Rattle.path_classes.proofs.layering.layer_arcs.Goals as goal

pub link_captures-requires-clause-few : goal.link_captures-requires-clause-few
link_captures-requires-clause-few c = omega (arith, c.requires.captures, ap (λ (xs : List Capture). length xs) c.as_slice-captures.ensures)

pub link_captures-requires-clause-pins : goal.link_captures-requires-clause-pins
link_captures-requires-clause-pins c = subst (λ xs. All (λ (x : Capture). x.pin.0 < c.args.pins) xs) (sym c.as_slice-captures.ensures) c.requires.capture_pins

pub live_marks-requires-clause-links : goal.live_marks-requires-clause-links
live_marks-requires-clause-links c = subst (λ xs. AreLinks (map capture_item xs) c.in_ok-links.links) c.as_slice-captures.ensures c.in_ok-links.ensures.links

pub live_marks-requires-clause-pins : goal.live_marks-requires-clause-pins
live_marks-requires-clause-pins c = subst (λ n. PinsBelow n c.args.arcs.now c.args.all.now) (sym c.in_ok-links.ensures.pins) c.requires.pins

pub rank_kinds-requires-clause-lists : goal.rank_kinds-requires-clause-lists
rank_kinds-requires-clause-lists c = c.requires.explored.states.lists

pub rank_kinds-requires-clause-live : goal.rank_kinds-requires-clause-live
rank_kinds-requires-clause-live c = ap (λ (ms : List Bool). length ms) c.as_slice-marks.ensures.value ∙ c.in_ok-live.ensures.size

pub place_all-requires-clause-lists : goal.place_all-requires-clause-lists
place_all-requires-clause-lists c = c.requires.explored.states.lists

pub place_all-requires-clause-live : goal.place_all-requires-clause-live
place_all-requires-clause-live c = ap (λ (ms : List Bool). length ms) c.as_slice-marks.ensures.value ∙ c.in_ok-live.ensures.size

pub place_all-requires-clause-edges : goal.place_all-requires-clause-edges
place_all-requires-clause-edges c =
    subst (EndsWithin (table_of c.args.table.now)) (sym c.as_slice-marks.ensures.value)
    (EndsWithin-of c.args.arcs.now c.args.all.now (table_of c.args.table.now) c.requires.explored c.in_ok-live.ensures.ends c.in_ok-live.live.items c.in_ok-live.ensures.leading)

pub place_all-requires-clause-ranked : goal.place_all-requires-clause-ranked
place_all-requires-clause-ranked c = c.in_ok-ranks.ensures

pub layered_from-requires-clause-links : goal.layered_from-requires-clause-links
layered_from-requires-clause-links c = subst (λ xs. AreLinks (map capture_item xs) c.in_ok-links.links) c.as_slice-captures.ensures c.in_ok-links.ensures.links

pub layered_from-requires-clause-keys : goal.layered_from-requires-clause-keys
layered_from-requires-clause-keys c = subst (λ ks. All (λ (x : KindKey). x.kind < length c.args.table.now.kinds) ks) (sym c.as_slice-keys.ensures.value) c.in_ok-ranks.ensures.kinds

pub layered_from-requires-clause-places : goal.layered_from-requires-clause-places
layered_from-requires-clause-places c =
    let within = subst (λ n. PinsBelow n c.args.arcs.now c.args.all.now) (sym c.in_ok-links.ensures.pins) c.requires.pins in
    subst (λ ks. CanLayer c.args.arcs.now c.args.all.now (length c.in_ok-links.links.first) c.args.table.now.kinds ks c.in_ok-places.places.nodes.items c.in_ok-places.places.items.items
    c.in_ok-places.places.starts.items) (sym c.as_slice-keys.ensures.value)
    (CanLayer-of c.args.arcs.now c.args.all.now (table_of c.args.table.now) c.requires.explored (length c.in_ok-links.links.first) within c.requires.clocks c.as_slice-marks.result.now
    c.in_ok-ranks.ranks.keys.items c.in_ok-ranks.ranks.ranks.items c.in_ok-ranks.ensures c.in_ok-places.places.nodes.items c.in_ok-places.places.items.items c.in_ok-places.places.starts.items
    c.in_ok-places.ensures)

pub returns : goal.returns
returns c =
    let t = table_of c.args.table.now in
    let ranks = c.in_ok-ranks.ranks in
    let places = c.in_ok-places.places in
    let ranked = subst (λ ms. AreRanked c.args.table.now.kinds c.args.table.now.states.keys c.args.table.now.launches.items ms ranks.keys.items ranks.ranks.items)
    c.as_slice-marks.ensures.value c.in_ok-ranks.ensures in
    let placed = subst (λ ms. ArePlaces c.args.all.now t ms ranks.ranks.items places.nodes.items places.items.items places.starts.items) c.as_slice-marks.ensures.value c.in_ok-places.ensures in
    let layered = subst (λ ks. IsLayeredFrom c.args.arcs.now c.args.all.now c.args.table.now.kinds ks places.nodes.items places.items.items places.starts.items c.in_ok-layered.layered)
    c.as_slice-keys.ensures.value c.in_ok-layered.ensures in
    record {
      parts = record {
        table = t;
        state_ends = c.in_ok-live.ensures.ends;
        live = c.in_ok-live.live.items;
        keys = ranks.keys.items;
        ranks = ranks.ranks.items;
        nodes = places.nodes.items;
        items = places.items.items;
        problem_items = layered.problem_items;
        starts = places.starts.items;
        ends = layered.ends;
      };
      are = record {
        explored = c.requires.explored;
        asks = c.in_ok-live.ensures.asks;
        leading = c.in_ok-live.ensures.leading;
        ranked = ranked;
        nodes = placed.nodes_are;
        nodes_rise = placed.nodes_rise;
        items = placed.items_are;
        items_rise = placed.items_rise;
        problem_items = layered.items_are;
        starts = placed.starts_are;
        starts_rise = placed.starts_rise;
        ends = layered.ends_are;
      };
      is = layered.is;
    }
