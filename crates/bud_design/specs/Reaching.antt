-- Pins in a class that changes from pin to pin: which ones arcs reach, and which ones lead on to an end.
use Rattle.std.specs.Prelude.{◌≡◌, ◌⊎◌, ℕ, List, [], ◌∷◌, map}
use Rattle.bud_base.specs.declared.ids.ArcId.{ArcId}
use Rattle.bud_design.specs.Arcs.{Arc, arc_at}

-- arcs that may be used, and how a class goes on to a pin
pub record Walk : Type 1 where
  pub Class : Type 0
  pub arcs : List Arc
  pub Uses : ArcId → Type 0
  pub go : Class → ℕ → Class

abbrev pub pin_behind : Walk → ArcId → ℕ
pin_behind w x = (arc_at w.arcs x.0).to

-- arcs that may be used join up from a pin to a pin
abbrev pub Joined : (w : Walk) → ℕ → List ArcId → ℕ → Type 0
Joined w u [] v = u ≡ v
Joined w u (x ∷ xs) v = w.Uses x × ((arc_at w.arcs x.0).from ≡ u) × Joined w (pin_behind w x) xs v

-- the class behind some pins
abbrev pub along : (w : Walk) → w.Class → List ℕ → w.Class
along w k [] = k
along w k (v ∷ vs) = along w (w.go k v) vs

-- arcs, none or some, lead to the pin from one where a class begins, which is this class behind them
pub record IsReached (w : Walk) (Begins : ℕ → w.Class → Type 0) (v : ℕ) (k : w.Class) : Type 0 where
  pub pin : ℕ
  pub first : w.Class
  pub begins : Begins pin first
  pub front : List ArcId
  pub joined : Joined w pin front v
  pub class_is : k ≡ along w first (map (pin_behind w) front)

-- arcs, none or some, lead from the pin to one where the class behind them ends
pub record LeadsOn (w : Walk) (Ends : ℕ → w.Class → Type 0) (v : ℕ) (k : w.Class) : Type 0 where
  pub rest : List ArcId
  pub pin : ℕ
  pub joined : Joined w v rest pin
  pub ends : Ends pin (along w k (map (pin_behind w) rest))

-- marks of a sweep that has done with some pins: states that are reached, those where classes begin, and behind each arc from a pin that is done
pub record AreMarks (w : Walk) (Begins : ℕ → w.Class → Type 0) (Done : ℕ → Type 0) (Marked : ℕ → w.Class → Type 0) : Type 0 where
  pub reached : (v : ℕ) (k : w.Class) → Marked v k → IsReached w Begins v k
  pub begins : (v : ℕ) (k : w.Class) → Begins v k → Marked v k
  pub closed : (x : ArcId) (k : w.Class) → w.Uses x → Done (arc_at w.arcs x.0).from → Marked (arc_at w.arcs x.0).from k → Marked (pin_behind w x) (w.go k (pin_behind w x))

-- an arc from the pin u leads to this state from a marked one
pub record IsMarkedBy (w : Walk) (u : ℕ) (Marked : ℕ → w.Class → Type 0) (v : ℕ) (k : w.Class) : Type 0 where
  pub arc : ArcId
  pub before : w.Class
  pub uses : w.Uses arc
  pub from : (arc_at w.arcs arc.0).from ≡ u
  pub to : pin_behind w arc ≡ v
  pub marked : Marked u before
  pub goes : k ≡ w.go before v

-- the marks with one pin more: those behind its arcs
pub record MarksOn (w : Walk) (u : ℕ) (Marked More : ℕ → w.Class → Type 0) : Type 0 where
  pub kept : (v : ℕ) (k : w.Class) → Marked v k → More v k
  pub adds : (x : ArcId) (k : w.Class) → w.Uses x → (arc_at w.arcs x.0).from ≡ u → Marked u k → More (pin_behind w x) (w.go k (pin_behind w x))
  pub only : (v : ℕ) (k : w.Class) → More v k → Marked v k ⊎ IsMarkedBy w u Marked v k
