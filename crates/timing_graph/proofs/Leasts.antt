-- One least delay changed: the graph stays sound.
use Rattle.std.specs.Prelude.{◌≡◌, ℕ, ℤ, ◌<◌, List, [], ◌∷◌, map, length, slice_index_or, slice_set, All, AllPairs, true}
use Rattle.std.proofs.Common.{refl, sym, ◌∙◌, ap, subst, arith, inl, inr, get_or-set_same, get_or-set_other}
use Rattle.std.proofs.lemmas.Bool.{cases_eq}
use Rattle.std.proofs.lemmas.List.{get_or_default, length-set, map-set, get_or-map}
use Rattle.bud_base.specs.declared.ids.PinId.{PinId}
use Rattle.bud_design.specs.Arcs.{Arc, Graph, arc_at, arc_before, IsPlaceIn, IsTopological}
use Rattle.bud_design.specs.Designs.{Design}
use Rattle.bud_design.specs.Orders.{pins_before}
use Rattle.bud_design.specs.TimingRules.{IsDelay, IsSoundArc, IsSoundGraph}
use Rattle.timing_graph.specs.Graphs.{with_least}
use Rattle.timing_graph.specs.GraphViews.{arc_of, IsSomeGraph}
use Rattle.timing_graph.specs.declared.graphs.Arc as held

-- the pins and the home of an arc
pub record IsSamePlace (x y : Arc) : Type 0 where
  pub from : x.from ≡ y.from
  pub to : x.to ≡ y.to
  pub home : x.home ≡ y.home

module _ (xs : List Arc) (a : ℕ) (z : ℤ) (within : a < length xs) where
  abbrev changed : Arc
  changed = record { from = (arc_at xs a).from; to = (arc_at xs a).to; least = z; home = (arc_at xs a).home }

  kept : (k : ℕ) (d : Arc) → k < length xs → IsSamePlace (slice_index_or (with_least xs a z) k d) (slice_index_or xs k d)
  kept k d below = elim (cases_eq k a) [
    | inl same ↦
        let here : slice_index_or (with_least xs a z) k d ≡ changed = ap (λ j. slice_index_or (with_least xs a z) j d) same ∙ get_or-set_same xs a changed d within in
        let there : arc_at xs a ≡ slice_index_or xs k d = get_or_default xs a (arc_at [] 0) d within ∙ ap (λ j. slice_index_or xs j d) (sym same) in
        record { from = ap (λ (x : Arc). x.from) here ∙ ap (λ (x : Arc). x.from) there; to = ap (λ (x : Arc). x.to) here ∙ ap (λ (x : Arc). x.to) there; home = ap (λ (x : Arc). x.home) here ∙ ap (λ (x : Arc). x.home) there }
    | inr differs ↦
        let here : slice_index_or (with_least xs a z) k d ≡ slice_index_or xs k d = get_or-set_other xs a k changed d differs in
        record { from = ap (λ (x : Arc). x.from) here; to = ap (λ (x : Arc). x.to) here; home = ap (λ (x : Arc). x.home) here }
  ]

  size : length (with_least xs a z) ≡ length xs
  size = length-set xs a changed

  sound-there : (d : Design) → IsDelay z → All (IsSoundArc d) xs → All (IsSoundArc d) (with_least xs a z)
  sound-there d delay all k e below =
      let inside : k < length xs = omega (arith, below, size) in
      let same = kept k e inside in
      let old = all k e inside in
      record {
        from = omega (arith, old.from, same.from);
        to = omega (arith, old.to, same.to);
        home = omega (arith, old.home, same.home);
        least = elim (cases_eq k a) [
          | inl here ↦ subst IsDelay (sym (ap (λ (x : Arc). x.least) (ap (λ j. slice_index_or (with_least xs a z) j e) here ∙ get_or-set_same xs a changed e within))) delay
          | inr differs ↦ subst IsDelay (sym (ap (λ (x : Arc). x.least) (get_or-set_other xs a k changed e differs))) old.least
        ];
      }

  rising-there : AllPairs (λ x y. arc_before x y ≡ true) xs → AllPairs (λ x y. arc_before x y ≡ true) (with_least xs a z)
  rising-there rise i j d less below =
      let inside : j < length xs = omega (arith, below, size) in
      let first = kept i d (omega (arith, less, inside)) in
      let second = kept j d inside in
      rw (first.from, first.to, second.from, second.to) (rise i j d less inside)

  order-there : (pins : ℕ) (order : List PinId) → IsTopological pins xs order → IsTopological pins (with_least xs a z) order
  order-there pins order is = record {
    length_is = is.length_is;
    once = is.once;
    forward = λ i j k below first last.
        let inside : i < length xs = omega (arith, below, size) in
        let same = kept i (arc_at [] 0) inside in
        is.forward i j k inside (subst (λ v. IsPlaceIn order v j) same.from first) (subst (λ v. IsPlaceIn order v k) same.to last);
  }

  pub IsSoundGraph-with : (d : Design) (order : List PinId) → IsDelay z → IsSoundGraph d (record { arcs = xs; order = order }) → IsSoundGraph d (record { arcs = with_least xs a z; order = order })
  IsSoundGraph-with d order delay sound = record {
    arcs = sound-there d delay sound.arcs;
    arc_order = rising-there sound.arc_order;
    order = order-there (length d.pins) order sound.order;
  }

  pub IsSomeGraph-with : (order : List PinId) → IsDelay z → IsSomeGraph (record { arcs = xs; order = order }) → IsSomeGraph (record { arcs = with_least xs a z; order = order })
  IsSomeGraph-with order delay some = record { few = omega (arith, some.few, size); design = some.design; sound = IsSoundGraph-with some.design order delay some.sound }

-- an arc that is held, with another least delay
pub map-with_least : (xs : List held.Arc) (a : ℕ) (z : ℤ) (old new d : held.Arc) → a < length xs → old ≡ slice_index_or xs a d → new ≡ record { from = old.from; to = old.to; least = z; home = old.home }
    → map arc_of (slice_set xs a new) ≡ with_least (map arc_of xs) a z
map-with_least xs a z old new d below is made =
    let there : arc_at (map arc_of xs) a ≡ arc_of old = get_or-map arc_of xs a d (arc_at [] 0) below ∙ ap arc_of (sym is) in
    map-set arc_of xs a new
    ∙ ap (λ y. slice_set (map arc_of xs) a y)
    (ap arc_of made ∙ ap (λ (x : Arc). record { from = x.from; to = x.to; least = z; home = x.home }) (sym there))
