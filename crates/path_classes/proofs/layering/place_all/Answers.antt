use Rattle.std.proofs.Common.{◌≡◌, ◌<◌, ℕ, List, Option, length, sym, ◌∙◌, ap, subst, arith}
use Rattle.bud_design.specs.declared.layers.Class.{Class}
use Rattle.path_states.specs.Tables.{table_of}
use Rattle.path_classes.specs.Placing.{AreDifferent, AreStarts}
use Rattle.path_classes.specs.Layering.{AreRising}
use Rattle.path_classes.proofs.TableFacts.{AreNodes-sorted, AreItems-sorted, AreStarts-sorted}
use Rattle.path_classes.proofs.layering.place_all.Goals as goal

pub place_starts-requires-clause-ranks : goal.place_starts-requires-clause-ranks
place_starts-requires-clause-ranks c =
    omega (arith, ap (λ (xs : List (Option ℕ)). length xs) c.as_slice-places.ensures.value, c.requires.ranked.size)

pub place_starts-requires-clause-rising : goal.place_starts-requires-clause-rising
place_starts-requires-clause-rising c = subst AreRising (sym c.as_slice-order.ensures.value) c.in_ok-nodes.ensures.rising

pub place_starts-requires-clause-kinds : goal.place_starts-requires-clause-kinds
place_starts-requires-clause-kinds c = c.requires.lists.different

pub returns : goal.returns
returns c =
    let t = table_of c.args.table.now in
    let begun = subst (λ rs. AreStarts c.args.all.now c.args.table.now.kinds rs c.in_ok-nodes.nodes.items (length c.args.all.now.launches) c.in_ok-begun.begun.items) c.as_slice-places.ensures.value
    (subst (λ ns. AreStarts c.args.all.now c.args.table.now.kinds c.as_slice-places.result.now ns (length c.args.all.now.launches) c.in_ok-begun.begun.items) c.as_slice-order.ensures.value
    c.in_ok-begun.ensures) in
    record {
      nodes_are = AreNodes-sorted t c.args.live.now c.args.ranks.now.ranks.items (length c.args.table.now.states.keys) c.in_ok-found.found.items c.in_ok-nodes.nodes.items
          c.in_ok-nodes.ensures.permutation c.in_ok-found.ensures;
      nodes_rise = c.in_ok-nodes.ensures.rising;
      items_are = AreItems-sorted t c.args.live.now c.args.ranks.now.ranks.items (length c.args.table.now.edges.items) c.in_ok-edges.edges.items c.in_ok-items.items.items
          c.in_ok-items.ensures.permutation c.in_ok-edges.ensures;
      items_rise = c.in_ok-items.ensures.rising;
      starts_are = AreStarts-sorted c.args.all.now c.args.table.now.kinds c.args.ranks.now.ranks.items c.in_ok-nodes.nodes.items (length c.args.all.now.launches) c.in_ok-begun.begun.items
          c.in_ok-starts.starts.items c.in_ok-starts.ensures.permutation begun;
      starts_rise = c.in_ok-starts.ensures.rising;
    }
