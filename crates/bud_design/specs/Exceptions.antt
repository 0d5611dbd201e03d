-- Timing exceptions, what they match, and the requirement.
use Rattle.std.specs.Prelude.{◌≡◌, ℕ, suc, ◌-◌, ◌<◌, ◌≤◌, ◌==◌, ◌&&◌, ◌||◌, ℤ, pos, ◌+ℤ◌, ◌*ℤ◌, ◌⊎◌, Bool, true, false, List, [], ◌∷◌, map, length, take, filter, filter_map, Option, Some, None, unwrap_or, find, if◌then◌else◌}
use Rattle.std.specs.List.{list_any}
use Rattle.std.specs.Option.{option_or}
use Rattle.bud_base.specs.declared.ids.PinId.{PinId}
use Rattle.bud_syntax.specs.declared.edges.Edge.{Edge}
use Rattle.bud_design.specs.declared.clocks.Clock.{Clock}
use Rattle.bud_design.specs.declared.clocks.Launch.{Launch}
use Rattle.bud_design.specs.declared.clocks.Capture.{Capture}
use Rattle.bud_design.specs.declared.clocks.Marks.{Marks}
use Rattle.bud_design.specs.declared.clocks.Exception.{Exception}
use Rattle.bud_design.specs.declared.clocks.ExceptionKind.{ExceptionKind}
use Rattle.bud_design.specs.declared.clocks.ExceptionKind.TheVariants.{FalsePath, Multicycle, MaxDelay}
use Rattle.bud_design.specs.declared.clocks.Constraints.{Constraints}
use Rattle.bud_design.specs.declared.layers.Met.{Met}
use Rattle.bud_design.specs.declared.layers.Class.{Class}
use Rattle.bud_design.specs.Clocks.{clock_at, relation}
use Rattle.bud_design.specs.Lists.{least}

abbrev pub has_pin : List PinId → ℕ → Bool
has_pin pins v = list_any (λ p. p.0 == v) pins

abbrev pub has_clock : List ℕ → ℕ → Bool
has_clock clocks c = list_any (λ k. k == c) clocks

-- a part names the pin or the clock, or there is no part
abbrev pub names : Option Marks → ℕ → ℕ → Bool
names None v c = true
names (Some marks) v c = has_pin marks.pins v || has_clock marks.clocks c

abbrev pub meets_from : Exception → Launch → Bool
meets_from e l = names e.from l.pin.0 l.clock

abbrev pub meets_to : Exception → Capture → Bool
meets_to e x = names e.to x.pin.0 x.clock

-- how many groups, from the first on, the pins pass in turn, each at a later pin than the one before
abbrev pub steps : List ℕ → List (List PinId) → ℕ
steps [] groups = 0
steps (v ∷ vs) [] = 0
steps (v ∷ vs) (g ∷ gs) = if has_pin g v then suc (steps vs gs) else steps vs (g ∷ gs)

-- the pins pass the groups in turn; the law is that they pass the first j groups exactly where j is at most `steps`
abbrev pub PassInTurn : List ℕ → List (List PinId) → Type 0
PassInTurn vs [] = Unit {0}
PassInTurn [] (g ∷ gs) = ⊥
PassInTurn (v ∷ vs) (g ∷ gs) = ((has_pin g v ≡ true) × PassInTurn vs gs) ⊎ PassInTurn vs (g ∷ gs)

abbrev pub AreSteps : List ℕ → List (List PinId) → ℕ → Type 0
AreSteps vs groups j = (j ≤ length groups) × PassInTurn vs (take j groups) × ((k : ℕ) → j < k → k ≤ length groups → PassInTurn vs (take k groups) → ⊥)

-- the exception matches a launch, the pins that a path from it passes, and a capture at the last of them
abbrev pub matches : Exception → Launch → List ℕ → Capture → Bool
matches e l vs x = meets_from e l && (meets_to e x && steps vs e.groups == length e.groups)

abbrev pub is_false_kind : ExceptionKind → Bool
is_false_kind FalsePath = true
is_false_kind (Multicycle n by_launch) = false
is_false_kind (MaxDelay amount) = false

abbrev pub most_delay : ExceptionKind → Option ℤ
most_delay FalsePath = None
most_delay (Multicycle n by_launch) = None
most_delay (MaxDelay amount) = Some amount

-- what a multicycle adds: one period fewer than its count
abbrev pub more_cycles : Clock → Clock → ExceptionKind → Option ℤ
more_cycles launch capture FalsePath = None
more_cycles launch capture (Multicycle n by_launch) = Some (pos (n - 1) *ℤ (if by_launch then launch.period else capture.period))
more_cycles launch capture (MaxDelay amount) = None

-- the requirement by the exceptions that match: none, else the least maximum delay, else the relation and the least of the multicycles
abbrev pub required_by : List ExceptionKind → Clock → Edge → Clock → Edge → Option ℤ
required_by kinds launch edge capture at =
    if list_any is_false_kind kinds then None
    else option_or (least (filter_map most_delay kinds)) (Some (relation launch edge capture at +ℤ unwrap_or (least (filter_map (more_cycles launch capture) kinds)) (pos 0)))

-- the requirement of a launch, a path from it and a capture
abbrev pub requirement : Constraints → Launch → List ℕ → Capture → Option ℤ
requirement all l vs x =
    required_by (map (λ e. e.kind) (filter (λ e. matches e l vs x) all.exceptions))
    (clock_at all.clocks l.clock) l.edge (clock_at all.clocks x.clock) x.edge

-- the class of a launch and the pins that a list of arcs from it passes
abbrev pub class_of : Constraints → Launch → List ℕ → Class
class_of all l vs = record {
  clock = l.clock;
  edge = l.edge;
  exceptions = map (λ e. record { number = e.number; steps = steps vs e.groups }) (filter (λ e. meets_from e l) all.exceptions);
}

-- the class lists the exception with all its steps met
abbrev pub has_met : Class → Exception → Bool
has_met k e = list_any (λ m. m.number == e.number && m.steps == length e.groups) k.exceptions

-- the requirement by class; the law is that it is that of any launch and path of the class
abbrev pub class_requirement : Constraints → Class → Capture → Option ℤ
class_requirement all k x =
    required_by (map (λ e. e.kind) (filter (λ e. has_met k e && meets_to e x) all.exceptions))
    (clock_at all.clocks k.clock) k.edge (clock_at all.clocks x.clock) x.edge

-- the class behind one more pin
abbrev pub group_after : ℕ → List (List PinId) → List PinId
group_after k [] = []
group_after k (g ∷ gs) = if k == 0 then g else group_after (k - 1) gs

abbrev pub groups_in : Option Exception → List (List PinId)
groups_in None = []
groups_in (Some e) = e.groups

abbrev pub groups_of : List Exception → ℕ → List (List PinId)
groups_of exceptions number = groups_in (find (λ e. e.number == number) exceptions)

abbrev pub step_at : List Exception → ℕ → Met → Met
step_at exceptions v m = record { number = m.number; steps = if has_pin (group_after m.steps (groups_of exceptions m.number)) v then suc m.steps else m.steps }

abbrev pub class_at : Constraints → Class → ℕ → Class
class_at all k v = record { clock = k.clock; edge = k.edge; exceptions = map (step_at all.exceptions v) k.exceptions }
