-- Arcs that join up: one list behind another, their last pin, and the pins that they pass.
use Rattle.std.specs.Prelude.{◌≡◌, ℕ, List, [], ◌∷◌, ◌++◌, map}
use Rattle.std.proofs.Common.{refl, sym, ◌∙◌, ap}
use Rattle.std.proofs.lemmas.List.{map-append}
use Rattle.bud_base.specs.declared.ids.ArcId.{ArcId}
use Rattle.bud_design.specs.Arcs.{Arc, arc_at, Leads}
use Rattle.bud_design.specs.TimingPaths.{passed, last_pin}

-- two lists of arcs that lead, one after the other
pub Leads-append : (arcs : List Arc) (xs ys : List ArcId) (u v w : ℕ) → Leads arcs u xs v → Leads arcs v ys w → Leads arcs u (xs ++ ys) w
Leads-append arcs [] ys u v w first then = rw first then
Leads-append arcs (x ∷ xs) ys u v w first then = (first.0, first.1, Leads-append arcs xs ys (arc_at arcs x.0).to v w first.2 then)

-- arcs lead to their last pin alone
pub Leads-last : (arcs : List Arc) (xs : List ArcId) (u w : ℕ) → Leads arcs u xs w → last_pin arcs u xs ≡ w
Leads-last arcs [] u w leads = leads
Leads-last arcs (x ∷ xs) u w leads = Leads-last arcs xs (arc_at arcs x.0).to w leads.2

pub Leads-one_end : (arcs : List Arc) (xs : List ArcId) (u v w : ℕ) → Leads arcs u xs v → Leads arcs u xs w → v ≡ w
Leads-one_end arcs xs u v w first second = sym (Leads-last arcs xs u v first) ∙ Leads-last arcs xs u w second

-- a list that leads comes apart at the last pin of its front
pub Leads-split : (arcs : List Arc) (xs ys : List ArcId) (u w : ℕ) → Leads arcs u (xs ++ ys) w → Leads arcs u xs (last_pin arcs u xs) × Leads arcs (last_pin arcs u xs) ys w
Leads-split arcs [] ys u w leads = (refl, leads)
Leads-split arcs (x ∷ xs) ys u w leads =
    let rest = Leads-split arcs xs ys (arc_at arcs x.0).to w leads.2 in
    ((leads.0, leads.1, rest.0), rest.1)

pub last_pin-append : (arcs : List Arc) (xs ys : List ArcId) (u : ℕ) → last_pin arcs u (xs ++ ys) ≡ last_pin arcs (last_pin arcs u xs) ys
last_pin-append arcs [] ys u = refl
last_pin-append arcs (x ∷ xs) ys u = last_pin-append arcs xs ys (arc_at arcs x.0).to

-- the pins passed by both lists: those of the first, and the last pins of the second's arcs
pub passed-append : (arcs : List Arc) (xs ys : List ArcId) (u : ℕ) → passed arcs u (xs ++ ys) ≡ passed arcs u xs ++ map (λ x. (arc_at arcs x.0).to) ys
passed-append arcs xs ys u = ap (λ vs. u ∷ vs) (map-append (λ (x : ArcId). (arc_at arcs x.0).to) xs ys)
