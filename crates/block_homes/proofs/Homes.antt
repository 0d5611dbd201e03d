-- Each arc of a design under a bound timing has its home: a wire's is the place that holds it, and any other's its leaf.
use Rattle.std.specs.Prelude.{◌≡◌, ℤ, Bool, true, false, List, [], ◌∷◌, All, slice_index_or}
use Rattle.std.proofs.Common.{refl, sym, inl, inr}
use Rattle.std.proofs.lemmas.List.Elements.{All-nil, All-cons, All-head, All-tail, All-append, All-map, All-contains}
use Rattle.bud_syntax.specs.declared.delays.SdfRow.{SdfRow}
use Rattle.bud_design.specs.declared.designs.Wire.{Wire}
use Rattle.bud_design.specs.declared.timings.Pair.{Pair}
use Rattle.bud_design.specs.declared.timings.Timing.{Timing}
use Rattle.bud_design.specs.Arcs.{Arc, arc_at, is_clocked}
use Rattle.bud_design.specs.Designs.{Design, pin_at}
use Rattle.bud_design.specs.DesignRules.{IsDesign, IsWireIn}
use Rattle.bud_design.specs.TimingRules.{IsSoundPair, IsSoundTiming}
use Rattle.delay_bind.specs.Bindings.{IsBound}
use Rattle.timing_graph.specs.Graphs.{wire_arcs, pair_arcs, all_arcs, AreArcs}
use Rattle.block_theory.specs.Blocks.{HasHome}
use Rattle.block_laws.specs.Standing.{HaveHomes}
use Rattle.block_homes.proofs.OneLeaf.{AtOneLeaf, pairs-leaf}

module _ (d : Design) (t : Timing) (design : IsDesign d) where
  wires-home : (ws : List Wire) (zs : List ℤ) → All (IsWireIn d) ws → All (HasHome d) (wire_arcs t ws zs)
  wires-home [] zs all = All-nil (HasHome d)
  wires-home (w ∷ ws) [] all = All-nil (HasHome d)
  wires-home (w ∷ ws) (z ∷ zs) all = by_test (is_clocked t w.to.0) refl (wires-home ws zs (All-tail (IsWireIn d) w ws all)) (All-head (IsWireIn d) w ws all)
    where
      by_test : (b : Bool) → is_clocked t w.to.0 ≡ b → All (HasHome d) (wire_arcs t ws zs) → IsWireIn d w → All (HasHome d) (wire_arcs t (w ∷ ws) (z ∷ zs))
      by_test true is rest here = rw is rest
      by_test false is rest here =
          let arc : Arc = record { from = w.from.0; to = w.to.0; least = z; home = w.home } in
          let home : HasHome d arc = record { from = here.from; to = here.to; home = here.home; kind = inl (record { drives = here.drives; loads = here.loads }) } in
          rw is (All-cons (HasHome d) arc (wire_arcs t ws zs) home rest)

  pair-home : (x : Pair) → IsSoundPair d x → AtOneLeaf d x.from.0 x.to.0 → HasHome d (record { from = x.from.0; to = x.to.0; least = x.value; home = (pin_at d.pins x.from.0).place })
  pair-home x sound leaf = record {
    from = sound.from;
    to = sound.to;
    home = design.in_places x.from.0 (pin_at [] 0) sound.from;
    kind = inr (record { leaf = leaf.leaf; from = refl; to = sym leaf.together });
  }

  pairs-home : All (IsSoundPair d) t.pairs → All (λ (x : Pair). AtOneLeaf d x.from.0 x.to.0) t.pairs → All (HasHome d) (pair_arcs d t)
  pairs-home sound leaf =
      All-map (HasHome d) (λ x. record { from = x.from.0; to = x.to.0; least = x.value; home = (pin_at d.pins x.from.0).place }) t.pairs
      (λ i e below. pair-home (slice_index_or t.pairs i e) (sound i e below) (leaf i e below))

pub homes : (d : Design) (rows : List SdfRow) (t : Timing) (arcs : List Arc) → IsDesign d → IsSoundTiming d t → IsBound d rows t → AreArcs d t arcs → HaveHomes d arcs
homes d rows t arcs design timing bound are i below =
    All-contains (HasHome d) (all_arcs d t) (arc_at arcs i)
    (All-append (HasHome d) (wire_arcs t d.wires t.wires) (pair_arcs d t) (wires-home d t design d.wires t.wires design.wires) (pairs-home d t design timing.pairs (pairs-leaf d rows t bound)))
    (are.sound i (arc_at [] 0) below)
