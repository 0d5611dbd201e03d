use Rattle.std.proofs.Common.{◌≡◌, ◌<◌, ℕ, List, length, sym, ◌∙◌, ap, subst, arith}
use Rattle.std.specs.Prelude.{All}
use Rattle.bud_base.specs.Markings.{AreReaching}
use Rattle.bud_base.specs.Orders.{IsWithinNodes, IsCycle}
use Rattle.bud_base.specs.declared.ids.ItemId.{ItemId}
use Rattle.bud_base.specs.declared.problems.Item.{Item}
use Rattle.bud_base.specs.declared.problems.End.{End}
use Rattle.live_states.specs.Leading.{leading_graph}
use Rattle.path_states.specs.Tables.{table_of}
use Rattle.path_classes.proofs.TableFacts.{pins-below, clocks-below, edges-within, acyclic-edges}
use Rattle.path_classes.proofs.layering.live_marks.Goals as goal

pub state_ends-requires-clause-pins : goal.state_ends-requires-clause-pins
state_ends-requires-clause-pins c = pins-below c.args.arcs.now c.args.all.now (table_of c.args.table.now) c.requires.explored (length c.args.links.now.first) c.requires.pins

pub state_ends-requires-clause-lists : goal.state_ends-requires-clause-lists
state_ends-requires-clause-lists c = c.requires.explored.states.lists

pub state_ends-requires-clause-clocks : goal.state_ends-requires-clause-clocks
state_ends-requires-clause-clocks c = clocks-below c.args.arcs.now c.args.all.now (table_of c.args.table.now) c.requires.explored c.requires.clocks

pub mark_leading-requires-clause-items : goal.mark_leading-requires-clause-items
mark_leading-requires-clause-items c =
    let count : length c.args.table.now.states.keys ≡ c.in-Ok.states = omega (arith, c.in-Ok.ensures.1, c.len-count.ensures.len) in
    subst (λ xs. All (IsWithinNodes c.in-Ok.states) xs) (sym c.as_slice-edges.ensures.value)
    (subst (λ n. All (IsWithinNodes n) c.args.table.now.edges.items) count (edges-within c.args.arcs.now c.args.all.now (table_of c.args.table.now) c.requires.explored))

pub mark_leading-requires-clause-ends : goal.mark_leading-requires-clause-ends
mark_leading-requires-clause-ends c =
    let count : length c.args.table.now.states.keys ≡ c.in-Ok.states = omega (arith, c.in-Ok.ensures.1, c.len-count.ensures.len) in
    subst (λ xs. All (λ (e : End). e.node.0 < c.in-Ok.states) xs) (sym c.as_slice-stops.ensures.value)
    (subst (λ n. All (λ (e : End). e.node.0 < n) c.in_ok-ends.ends.items) count c.in_ok-ends.ensures.within)

pub mark_leading-requires-clause-acyclic : goal.mark_leading-requires-clause-acyclic
mark_leading-requires-clause-acyclic c =
    subst (λ xs. (ring : List ItemId) → IsCycle xs ring → ⊥) (sym c.as_slice-edges.ensures.value)
    (acyclic-edges c.args.arcs.now c.args.all.now (table_of c.args.table.now) c.requires.explored c.requires.acyclic)

pub returns : goal.returns
returns c =
    let count : length c.args.table.now.states.keys ≡ c.in-Ok.states = omega (arith, c.in-Ok.ensures.1, c.len-count.ensures.len) in
    record {
      ends = c.in_ok-ends.ends.items;
      asks = c.in_ok-ends.ensures;
      leading = subst (λ n. AreReaching (leading_graph n c.args.table.now.edges.items c.in_ok-ends.ends.items) c.in_ok-live.live.items) (sym count)
          (subst (λ xs. AreReaching (leading_graph c.in-Ok.states xs c.in_ok-ends.ends.items) c.in_ok-live.live.items) c.as_slice-edges.ensures.value
          (subst (λ es. AreReaching (leading_graph c.in-Ok.states c.as_slice-edges.result.now es) c.in_ok-live.live.items) c.as_slice-stops.ensures.value c.in_ok-live.ensures.leading));
      size = c.in_ok-live.ensures.size ∙ sym count;
    }
