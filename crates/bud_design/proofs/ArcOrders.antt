-- Arcs that follow an order of the pins: they lead to later places, so they never lead back.
use Rattle.std.specs.Prelude.{ℕ, ◌<◌, List, [], ◌∷◌, length}
use Rattle.std.proofs.Common.{sym, subst, arith}
use Rattle.bud_base.specs.declared.ids.ArcId.{ArcId}
use Rattle.bud_base.specs.declared.ids.PinId.{PinId}
use Rattle.bud_design.specs.Arcs.{Arc, arc_at, Leads, IsPlaceIn, IsTopological}

module _ (pins : ℕ) (arcs : List Arc) (order : List PinId) (topological : IsTopological pins arcs order) (within : (i : ℕ) → i < length arcs → (arc_at arcs i).to < pins) where
  -- arcs, at least one, lead to a later place
  pub Leads-later : (x : ArcId) (xs : List ArcId) (u v j k : ℕ) → Leads arcs u (x ∷ xs) v → IsPlaceIn order u j → IsPlaceIn order v k → j < k
  Leads-later x [] u v j k leads at_first at_last =
      topological.forward x.0 j k leads.0 (subst (λ a. IsPlaceIn order a j) (sym leads.1) at_first) (subst (λ b. IsPlaceIn order b k) (sym leads.2) at_last)
  Leads-later x (y ∷ ys) u v j k leads at_first at_last =
      let middle = topological.once (arc_at arcs x.0).to (within x.0 leads.0) in
      let before = topological.forward x.0 j middle.0 leads.0 (subst (λ a. IsPlaceIn order a j) (sym leads.1) at_first) middle.1 in
      let behind = Leads-later y ys (arc_at arcs x.0).to v middle.0 k leads.2 middle.1 at_last in
      omega (arith, before, behind)

  -- no arcs lead from a pin back to it
  pub Leads-never_back : (x : ArcId) (xs : List ArcId) (v : ℕ) → v < pins → Leads arcs v (x ∷ xs) v → ⊥
  Leads-never_back x xs v below leads =
      let there = topological.once v below in
      let less = Leads-later x xs v v there.0 there.0 leads there.1 there.1 in
      omega (arith, less)
