-- Surpluses that marks show, and those that they exclude.
use Rattle.std.proofs.Common.{◌≡◌, ℕ, zero, suc, pos, ◌+◌, ◌-◌, ◌<◌, ◌≤◌, ◌<ℤ◌, List, [], ◌∷◌, Option, Some, arith, ap, sym, subst, ◌∙◌, inl, inr}
use Rattle.std.proofs.lemmas.Bool.{cases_lt}
use Rattle.bud_base.specs.declared.ids.ItemId.{ItemId}
use Rattle.bud_flow.specs.Sums.{number_at}
use Rattle.residual.specs.Arcs.{arc_at}
use Rattle.residual.specs.Networks.{Network, HasSizes, end_flow_at}
use Rattle.residual.specs.Trims.{FlowsAlong, HasNoSurplus}
use Rattle.residual.specs.Walks.{way_at, IsMarked, rank_of, rank_at, AreWays, HaveFlow, AreParted, HasWalk}
use Rattle.residual.proofs.Walking.{none-some}
use Rattle.residual.proofs.Surplus.{start-from_root}
use Rattle.residual.specs.declared.walks.Way.{Way}

-- ---- where the marks part the network
-- items with flow lead to marked nodes from marked nodes
marked_before : (net : Network) (ways : List (Option Way)) (first to : ℕ) → HasSizes net → AreParted net.arcs net.flows net.items net.nodes first to ways
    → (a : ℕ) (is : List ItemId) (b : ℕ) → FlowsAlong net a is b → IsMarked ways b → IsMarked ways a
marked_before net ways first to sizes parted a [] b along marked = subst (IsMarked ways) (sym along) marked
marked_before net ways first to sizes parted a (i ∷ is) b along marked =
    let rest : IsMarked ways (arc_at net.arcs (net.items + i.0)).to.0 = marked_before net ways first to sizes parted (arc_at net.arcs (net.items + i.0)).to.0 is b along.3 marked in
    subst (IsMarked ways) along.2
    (parted.covered (net.items + i.0) (omega arith) (omega (arith, along.0, sizes.arcs)) along.1 (λ e. omega (arith, e, sizes.shape.open_from i.0 along.0)) (inr rest))

pub HasNoSurplus-parted : (net : Network) (ways : List (Option Way)) → HasSizes net
    → AreParted net.arcs net.flows net.items net.nodes (net.items + net.items) (net.items + net.items + net.starts) ways → HasNoSurplus net
HasNoSurplus-parted net ways sizes parted path has =
    let at_end : IsMarked ways (arc_at net.arcs (net.items + net.items + net.starts + path.end)).from.0 =
    parted.covered (net.items + net.items + net.starts + path.end) (omega arith) (omega (arith, has.end, sizes.arcs)) has.end_flow (λ e. omega (arith, e, sizes.shape.end_from path.end has.end))
    (inl (sizes.shape.end_to path.end has.end)) in
    let at_start : IsMarked ways (arc_at net.arcs (net.items + net.items + path.start)).to.0
    = marked_before net ways (net.items + net.items) (net.items + net.items + net.starts) sizes parted _ path.items _ has.along at_end in
    none-some (way_at ways (arc_at net.arcs (net.items + net.items + path.start)).to.0) at_start.0
    (parted.none (net.items + net.items + path.start) (omega arith) (omega (arith, has.start)) has.start_flow) at_start.1

-- ---- where marks lead on
-- items with flow from a node to an end with flow
pub record LeadsToEnd (net : Network) (v : ℕ) : Type 0 where
  pub items : List ItemId
  pub end : ℕ
  pub within : end < net.ends
  pub flow : pos 0 <ℤ end_flow_at net end
  pub along : FlowsAlong net v items (arc_at net.arcs (net.items + net.items + net.starts + end)).from.0

-- over the arc without limit of an item
over_item : (net : Network) (i v : ℕ) → i < net.items → pos 0 <ℤ number_at net.flows (net.items + i) → (arc_at net.arcs (net.items + i)).from.0 ≡ v
    → LeadsToEnd net (arc_at net.arcs (net.items + i)).to.0 → LeadsToEnd net v
over_item net i v within flow from rest = record {
  items = record { 0 = i } ∷ rest.items;
  end = rest.end;
  within = rest.within;
  flow = rest.flow;
  along = (within, flow, from, rest.along);
}

leads_on : (net : Network) (ways : List (Option Way)) (count : ℕ) → HasSizes net → AreWays net.arcs net.items net.nodes ways count → HaveFlow net.flows ways
    → (n v : ℕ) (w : Way) → way_at ways v ≡ Some w → rank_at ways v ≤ n → LeadsToEnd net v
leads_on net ways count sizes are have zero v w is few = absurd (omega (arith, ap rank_of is, few))
leads_on net ways count sizes are have (suc n) v w is few =
    let one = are.each v w is in
    elim (cases_lt w.arc (net.items + net.items)) [
      | inl item ↦
          let i : ℕ = w.arc - net.items in
          let e : w.arc ≡ net.items + i = omega (arith, one.above) in
          let within : i < net.items = omega (arith, item, one.above) in
          let flow : pos 0 <ℤ number_at net.flows (net.items + i) = subst (λ (k : ℕ). pos 0 <ℤ number_at net.flows k) e (have v w is) in
          let from : (arc_at net.arcs (net.items + i)).from.0 ≡ v = ap (λ k. (arc_at net.arcs k).from.0) (sym e) ∙ one.from in
          let same_to : (arc_at net.arcs w.arc).to.0 ≡ (arc_at net.arcs (net.items + i)).to.0 = ap (λ k. (arc_at net.arcs k).to.0) e in
          elim one.on [
            | inl at_root ↦ absurd (omega (arith, at_root, same_to, sizes.shape.open_to i within))
            | inr marked ↦
                over_item net i v within flow from
                (subst (LeadsToEnd net) same_to
                (leads_on net ways count sizes are have n (arc_at net.arcs w.arc).to.0 marked.0 marked.1 (omega (arith, one.earlier, ap rank_of is, few))))
          ]
      | inr past ↦ elim (cases_lt w.arc (net.items + net.items + net.starts)) [
        | inl start ↦
            let at_root : v ≡ net.nodes = sym one.from ∙ start-from_root net w.arc sizes past start in
            absurd (none-some (way_at ways v) w (ap (way_at ways) at_root ∙ are.bare) is)
        | inr behind ↦
            let j : ℕ = w.arc - (net.items + net.items + net.starts) in
            let e : w.arc ≡ net.items + net.items + net.starts + j = omega (arith, behind) in
            record {
              items = [];
              end = j;
              within = omega (arith, e, one.below, sizes.arcs);
              flow = subst (λ (k : ℕ). pos 0 <ℤ number_at net.flows k) e (have v w is);
              along = sym one.from ∙ ap (λ k. (arc_at net.arcs k).from.0) e;
            }
      ]
    ]

-- a walk over arcs with flow shows a surplus
pub HasSurplus-walk : (net : Network) → HasSizes net → HasWalk net.arcs net.flows net.items net.nodes (net.items + net.items) (net.items + net.items + net.starts) → HasNoSurplus net → ⊥
HasSurplus-walk net sizes walk none =
    let marked = walk.open_start.marked in
    let rest : LeadsToEnd net (arc_at net.arcs walk.start).to.0 = leads_on net walk.ways walk.count sizes walk.marks walk.flow (rank_at walk.ways (arc_at net.arcs walk.start).to.0) _ marked.0 marked.1 (omega arith) in
    let s : ℕ = walk.start - (net.items + net.items) in
    let e : walk.start ≡ net.items + net.items + s = omega (arith, walk.above) in
    none (record { start = s; items = rest.items; end = rest.end })
    (record {
      start = omega (arith, walk.above, walk.below);
      end = rest.within;
      start_flow = subst (λ (k : ℕ). pos 0 <ℤ number_at net.flows k) e walk.open_start.flow;
      end_flow = rest.flow;
      along = subst (λ (k : ℕ). FlowsAlong net (arc_at net.arcs k).to.0 rest.items (arc_at net.arcs (net.items + net.items + net.starts + rest.end)).from.0) e rest.along;
    })
