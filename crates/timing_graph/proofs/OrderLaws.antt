-- An order and a cycle of items are those of the arcs that they stand for.
use Rattle.std.specs.Prelude.{◌≡◌, ℕ, zero, suc, ◌<◌, ◌≤◌, List, [], ◌∷◌, map, length, slice_index_or, All, AllPairs, Err}
use Rattle.std.proofs.Common.{refl, sym, ◌∙◌, ap, subst, arith}
use Rattle.std.proofs.lemmas.List.{length-map, get_or-map}
use Rattle.std.proofs.lemmas.List.Elements.{All-map}
use Rattle.bud_base.specs.Paths.{item_at, Joins}
use Rattle.bud_base.specs.Orders.{node_at, IsWithinNodes, IsOrder, IsCycle}
use Rattle.bud_base.specs.declared.ids.ArcId.{ArcId}
use Rattle.bud_base.specs.declared.ids.ItemId.{ItemId}
use Rattle.bud_base.specs.declared.ids.NodeId.{NodeId}
use Rattle.bud_design.specs.Arcs.{arc_at, IsPlaceIn, IsTopological, Leads, IsArcCycle}
use Rattle.bud_design.specs.declared.timings.Timing.{Timing}
use Rattle.bud_design.specs.Designs.{Design}
use Rattle.timing_graph.specs.declared.faults.GraphFault.{GraphFault}
use Rattle.timing_graph.specs.declared.faults.GraphFault.TheVariants.{Cycle, NoMemory}
use Rattle.timing_graph.specs.declared.graphs.Arc.{Arc}
use Rattle.timing_graph.specs.Graphs.{pins_of_arc, AreArcs, IsArcsAnswer}
use Rattle.timing_graph.specs.GraphViews.{arc_of}
use Rattle.timing_graph.specs.Orderings.{item_of, pin_of, pair_of, IsCycleFault}
use Rattle.timing_graph.specs.Rings.{IsOwnCycle}
use Rattle.timing_graph.proofs.Mapped.{AllPairs-map}

pub from-same : (xs : List Arc) (i : ℕ) → (item_at (map item_of xs) i).from.0 ≡ (arc_at (map arc_of xs) i).from
from-same [] i = refl
from-same (x ∷ xs) zero = refl
from-same (x ∷ xs) (suc i) = from-same xs i

pub to-same : (xs : List Arc) (i : ℕ) → (item_at (map item_of xs) i).to.0 ≡ (arc_at (map arc_of xs) i).to
to-same [] i = refl
to-same (x ∷ xs) zero = refl
to-same (x ∷ xs) (suc i) = to-same xs i

pin-there : (order : List NodeId) (k : ℕ) → (slice_index_or (map pin_of order) k (record { 0 = 0 })).0 ≡ node_at order k
pin-there [] k = refl
pin-there (n ∷ ns) zero = refl
pin-there (n ∷ ns) (suc k) = pin-there ns k

pub items-within : (pins : ℕ) (xs : List Arc) → All (λ a. (a.from.0 < pins) × (a.to.0 < pins)) xs → All (IsWithinNodes pins) (map item_of xs)
items-within pins xs within =
    All-map (IsWithinNodes pins) item_of xs (λ k d below. (let ends = within k d below in record { from = ends.0; to = ends.1 }))

pub IsTopological-from_order : (pins : ℕ) (xs : List Arc) (order : List NodeId) → IsOrder pins (map item_of xs) order → IsTopological pins (map arc_of xs) (map pin_of order)
IsTopological-from_order pins xs order is = record {
  length_is = length-map order pin_of ∙ is.size;
  once = λ v below. (is.place v, (omega (arith, is.placed v below, is.size, length-map order pin_of), pin-there order (is.place v) ∙ is.stands v below));
  forward = λ i j k below first last.
      let front : is.place (item_at (map item_of xs) i).from.0 ≡ j
      = ap is.place (from-same xs i ∙ (sym first.1 ∙ pin-there order j)) ∙ is.at_place j (omega (arith, first.0, is.size, length-map order pin_of)) in
      let back : is.place (item_at (map item_of xs) i).to.0 ≡ k
      = ap is.place (to-same xs i ∙ (sym last.1 ∙ pin-there order k)) ∙ is.at_place k (omega (arith, last.0, is.size, length-map order pin_of)) in
      let less = is.follows i (omega (arith, below, length-map xs arc_of, length-map xs item_of)) in
      omega (arith, front, back, less);
}

abbrev pub arc_id : ItemId → ArcId
arc_id i = record { 0 = i.0 }

Leads-from_joined : (xs : List Arc) (v w : ℕ) (ring : List ItemId) → Joins (map item_of xs) v ring w → Leads (map arc_of xs) v (map arc_id ring) w
Leads-from_joined xs v w [] joined = joined
Leads-from_joined xs v w (i ∷ is) joined = (
  omega (arith, joined.0, length-map xs arc_of, length-map xs item_of),
  sym (from-same xs i.0) ∙ joined.1,
  Leads-from_joined xs (arc_at (map arc_of xs) i.0).to w is (subst (λ u. Joins (map item_of xs) u is w) (to-same xs i.0) joined.2),
)

pub IsArcCycle-from_own : (xs : List Arc) (ring : List ItemId) → IsOwnCycle (map item_of xs) ring → IsArcCycle (map arc_of xs) (map arc_id ring)
IsArcCycle-from_own xs [] own = absurd own.cycle
IsArcCycle-from_own xs (i ∷ is) own = record {
  first = arc_id i;
  others = map arc_id is;
  list_is = refl;
  closed = subst (λ u. Leads (map arc_of xs) u (map arc_id (i ∷ is)) u) (from-same xs i.0) (Leads-from_joined xs _ _ (i ∷ is) own.cycle.0);
  least = All-map (λ (a : ArcId). i.0 ≤ a.0) arc_id is own.cycle.1;
  once = AllPairs-map arc_id (λ (a b : ArcId). (arc_at (map arc_of xs) a.0).to ≡ (arc_at (map arc_of xs) b.0).to → ⊥) (i ∷ is)
      (λ j k d less within same. own.once j k d less within (to-same xs _ ∙ (same ∙ sym (to-same xs _))));
}

pub pairs-same : (xs : List Arc) (ring : List ItemId) → map (pair_of (map item_of xs)) ring ≡ map (pins_of_arc (map arc_of xs)) (map arc_id ring)
pairs-same xs [] = refl
pairs-same xs (i ∷ is) = rw (from-same xs i.0, to-same xs i.0, pairs-same xs is) refl

-- a cycle of the items is one of the arcs
pub IsArcsAnswer-fault : (d : Design) (t : Timing) (xs : List Arc) (fault : GraphFault) → AreArcs d t (map arc_of xs) → IsCycleFault (map item_of xs) fault → IsArcsAnswer d t (Err fault)
IsArcsAnswer-fault d t xs (Cycle pairs) are found = record {
  arcs = map arc_of xs;
  are_arcs = are;
  cycle = map arc_id found.ring;
  is_cycle = IsArcCycle-from_own xs found.ring found.own;
  pairs_are = found.pairs_are ∙ pairs-same xs found.ring;
}
IsArcsAnswer-fault d t xs NoMemory are found = tt
