use Rattle.std.proofs.Common.{◌≡◌, ◌+◌, ◌++◌, ◌^◌, ℤ, pos, List, map, refl, sym, subst}
use Rattle.bud_base.specs.Paths.{least_of}
use Rattle.bud_base.specs.declared.problems.Item.{Item}
use Rattle.bud_base.specs.declared.problems.Start.{Start}
use Rattle.bud_base.specs.declared.problems.End.{End}
use Rattle.bud_base.specs.declared.problems.Problem.{Problem}
use Rattle.bud_flow.specs.Sums.{number_at}
use Rattle.bud_flow.specs.Arrivals.{Suit}
use Rattle.residual.specs.Bounds.{AllWithin}
use Rattle.residual.specs.Arcs.{limited_arc, open_arc, start_arc, end_arc, first_flow, JoinBelow, CarryAll}
use Rattle.residual.specs.Excesses.{AreExcesses}
use Rattle.first_times.specs.FirstTimes.{AreFirstTimes}
use Rattle.residual.proofs.Freshness.{AreFreshLists, AllWithin-first, IsLawful-fresh, Fits-fresh, IsFresh-fresh}
use Rattle.residual.specs.declared.arcs.Arc.{Arc}
use Rattle.residual.proofs.nets.Net.new.Goals as goal

pub first_flows-requires-clause-small : goal.first_flows-requires-clause-small
first_flows-requires-clause-small c =
    subst (AllWithin (pos (2 ^ 60))) (sym c.deref.ensures.value) (AllWithin-first c.args.problem.now c.in_ok-arrivals.arrivals.items c.requires.sound c.in_ok-arrivals.ensures)

lists : (p : Problem) (items : List Item) (starts : List Start) (ends : List End) (arcs : List Arc) (flows kept shared potentials : List ℤ) → items ≡ p.items → starts ≡ p.starts → ends ≡ p.ends
    → arcs ≡ map limited_arc items ++ map open_arc items ++ map (start_arc p.nodes) starts ++ map (end_arc p.nodes) ends → shared ≡ potentials
    → flows ≡ map (first_flow shared) items ++ map (λ _. pos 0) items ++ map (λ _. pos 0) starts ++ map (λ _. pos 0) ends
    → kept ≡ potentials → AreFirstTimes p potentials → AreFreshLists p arcs flows kept potentials
lists p items starts ends arcs flows kept shared potentials same_items same_starts same_ends is_arcs same is_flows is_kept first = record {
  arcs_are = rw (same_items, same_starts, same_ends) at is_arcs;
  flows_are = rw (same_items, same_starts, same_ends, same) at is_flows;
  kept_are = is_kept;
  first = first;
}

-- the lists of the new network, as they stand behind its excesses
pub excesses_of-requires-clause-nodes : goal.excesses_of-requires-clause-nodes
excesses_of-requires-clause-nodes c =
    let fresh = lists c.args.problem.now _ _ _ c.in_ok-arcs.arcs.items c.in_ok-flows.flows.items c.in_ok-arrivals.arrivals.items c.deref.result.now c.in_ok-arrivals.arrivals.items
    c.as_slice-items.ensures c.as_slice-starts.ensures c.as_slice-ends.ensures c.in_ok-arcs.ensures c.deref.ensures.value c.in_ok-flows.ensures
    refl c.in_ok-arrivals.ensures in
    let lawful = IsLawful-fresh c.args.problem.now _ _ _ _ c.requires.sound fresh in
    subst (JoinBelow (c.args.problem.now.nodes + 1)) (sym c.deref-2.ensures.value) lawful.sizes.joins

pub lists_of-requires-clause-nodes : goal.lists_of-requires-clause-nodes
lists_of-requires-clause-nodes c =
    let fresh = lists c.args.problem.now _ _ _ c.in_ok-arcs.arcs.items c.in_ok-flows.flows.items c.in_ok-arrivals.arrivals.items c.deref.result.now c.in_ok-arrivals.arrivals.items
    c.as_slice-items.ensures c.as_slice-starts.ensures c.as_slice-ends.ensures c.in_ok-arcs.ensures c.deref.ensures.value c.in_ok-flows.ensures
    refl c.in_ok-arrivals.ensures in
    let lawful = IsLawful-fresh c.args.problem.now _ _ _ _ c.requires.sound fresh in
    subst (JoinBelow (c.args.problem.now.nodes + 1)) (sym c.deref-4.ensures.value) lawful.sizes.joins

pub excesses_of-requires-clause-flows : goal.excesses_of-requires-clause-flows
excesses_of-requires-clause-flows c =
    let fresh = lists c.args.problem.now _ _ _ c.in_ok-arcs.arcs.items c.in_ok-flows.flows.items c.in_ok-arrivals.arrivals.items c.deref.result.now c.in_ok-arrivals.arrivals.items
    c.as_slice-items.ensures c.as_slice-starts.ensures c.as_slice-ends.ensures c.in_ok-arcs.ensures c.deref.ensures.value c.in_ok-flows.ensures
    refl c.in_ok-arrivals.ensures in
    let lawful = IsLawful-fresh c.args.problem.now _ _ _ _ c.requires.sound fresh in
    let P : List Arc → Type 0 = λ arcs. CarryAll arcs c.deref-3.result.now in
    let Q : List ℤ → Type 0 = λ flows. CarryAll c.in_ok-arcs.arcs.items flows in
    subst P (sym c.deref-2.ensures.value) (subst Q (sym c.deref-3.ensures.value) lawful.flows)

pub returns-clause-lawful : goal.returns-clause-lawful
returns-clause-lawful c =
    let fresh = lists c.args.problem.now _ _ _ c.in_ok-arcs.arcs.items c.in_ok-flows.flows.items c.in_ok-arrivals.arrivals.items c.deref.result.now c.in_ok-arrivals.arrivals.items
    c.as_slice-items.ensures c.as_slice-starts.ensures c.as_slice-ends.ensures c.in_ok-arcs.ensures c.deref.ensures.value c.in_ok-flows.ensures
    refl c.in_ok-arrivals.ensures in
    rw (c.in_ok-potentials.ensures.kept, c.in_ok-potentials.ensures.present, c.as_slice-items.ensures, c.as_slice-starts.ensures, c.as_slice-ends.ensures) (IsLawful-fresh c.args.problem.now _ _ _ _ c.requires.sound fresh)

pub returns-clause-fits : goal.returns-clause-fits
returns-clause-fits c =
    let fresh = lists c.args.problem.now _ _ _ c.in_ok-arcs.arcs.items c.in_ok-flows.flows.items c.in_ok-arrivals.arrivals.items c.deref.result.now c.in_ok-arrivals.arrivals.items
    c.as_slice-items.ensures c.as_slice-starts.ensures c.as_slice-ends.ensures c.in_ok-arcs.ensures c.deref.ensures.value c.in_ok-flows.ensures
    refl c.in_ok-arrivals.ensures in
    rw (c.in_ok-potentials.ensures.kept, c.in_ok-potentials.ensures.present, c.as_slice-items.ensures, c.as_slice-starts.ensures, c.as_slice-ends.ensures) (Fits-fresh c.args.problem.now _ _ _ _ fresh)

pub returns-clause-fresh : goal.returns-clause-fresh
returns-clause-fresh c =
    let fresh = lists c.args.problem.now _ _ _ c.in_ok-arcs.arcs.items c.in_ok-flows.flows.items c.in_ok-arrivals.arrivals.items c.deref.result.now c.in_ok-arrivals.arrivals.items
    c.as_slice-items.ensures c.as_slice-starts.ensures c.as_slice-ends.ensures c.in_ok-arcs.ensures c.deref.ensures.value c.in_ok-flows.ensures
    refl c.in_ok-arrivals.ensures in
    rw (c.in_ok-potentials.ensures.kept, c.in_ok-potentials.ensures.present, c.as_slice-items.ensures, c.as_slice-starts.ensures, c.as_slice-ends.ensures) (IsFresh-fresh c.args.problem.now _ _ _ _ fresh)

pub invariant_of-result : goal.invariant_of-result
invariant_of-result c =
    let P : List Arc → Type 0 = λ arcs. AreExcesses arcs c.deref-3.result.now c.in_ok-excess.excess.items in
    let Q : List ℤ → Type 0 = λ flows. AreExcesses c.in_ok-arcs.arcs.items flows c.in_ok-excess.excess.items in
    record {
      lawful = returns-clause-lawful c;
      excess_size = c.in_ok-excess.ensures.size;
      listed = rw (← c.deref-4.ensures.value) c.in_ok-lists.ensures;
      ways = c.in_ok-ways.ensures;
      excesses = subst Q c.deref-3.ensures.value (subst P c.deref-2.ensures.value c.in_ok-excess.ensures.excesses);
    }
