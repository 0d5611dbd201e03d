-- Constrained paths of a design below a root, their room and their slack.
use Rattle.std.specs.Prelude.{◌≡◌, ℕ, ◌<◌, ◌==◌, ℤ, pos, ◌+ℤ◌, ◌-ℤ◌, ◌≤ℤ◌, true, List, [], ◌∷◌, map, length, filter_map, All, Option, Some, None, slice_index_or, if◌then◌else◌}
use Rattle.std.specs.Option.{option_map}
use Rattle.bud_base.specs.declared.ids.ArcId.{ArcId}
use Rattle.bud_syntax.specs.declared.edges.Edge.TheVariants.{Rise}
use Rattle.bud_design.specs.declared.clocks.Launch.{Launch}
use Rattle.bud_design.specs.declared.clocks.Capture.{Capture}
use Rattle.bud_design.specs.declared.clocks.Constraints.{Constraints}
use Rattle.bud_design.specs.Arcs.{Arc, arc_at, Leads}
use Rattle.bud_design.specs.Designs.{Design, is_inside}
use Rattle.bud_design.specs.Exceptions.{requirement}
use Rattle.bud_design.specs.Lists.{least}

-- a design below a root, with its arcs and constraints
pub record View : Type 0 where
  pub design : Design
  pub root : ℕ
  pub arcs : List Arc
  pub all : Constraints

-- a launch, by its number, and a list of arcs
pub record TimingPath : Type 0 where
  pub launch : ℕ
  pub arcs : List ArcId

abbrev pub launch_at : List Launch → ℕ → Launch
launch_at launches n = slice_index_or launches n (record { pin = record { 0 = 0 }; clock = 0; edge = Rise; offset = pos 0 })

-- the pins that arcs pass behind a pin, the pin first
abbrev pub passed : List Arc → ℕ → List ArcId → List ℕ
passed arcs v xs = v ∷ map (λ x. (arc_at arcs x.0).to) xs

-- the last pin of arcs that begin at a pin
abbrev pub last_pin : List Arc → ℕ → List ArcId → ℕ
last_pin arcs v [] = v
last_pin arcs v (x ∷ xs) = last_pin arcs (arc_at arcs x.0).to xs

abbrev pub path_start : View → TimingPath → Launch
path_start w path = launch_at w.all.launches path.launch

-- arcs of the root's design, at least one, that go on from the launch's pin
pub record IsTimingPath (w : View) (path : TimingPath) : Type 0 where
  pub launch : path.launch < length w.all.launches
  pub some : 0 < length path.arcs
  pub within : All (λ x. is_inside w.design.places w.root (arc_at w.arcs x.0).home ≡ true) path.arcs
  pub joined : Leads w.arcs (path_start w path).pin.0 path.arcs (last_pin w.arcs (path_start w path).pin.0 path.arcs)

-- the required time less the launch time that a capture asks for at a pin, by a requirement
abbrev pub asked : ℕ → (Capture → Option ℤ) → Capture → Option ℤ
asked v required x = if x.pin.0 == v then option_map (λ r. r -ℤ x.amount) (required x) else None

-- the least of these, where a capture at the pin has a requirement
abbrev pub least_asked : List Capture → ℕ → (Capture → Option ℤ) → Option ℤ
least_asked captures v required = least (filter_map (asked v required) captures)

-- the room of a path: what the captures at its last pin ask for, less the launch's offset
abbrev pub path_room : View → TimingPath → Option ℤ
path_room w path =
    option_map (λ r. r -ℤ (path_start w path).offset)
    (least_asked w.all.captures (last_pin w.arcs (path_start w path).pin.0 path.arcs)
    (requirement w.all (path_start w path) (passed w.arcs (path_start w path).pin.0 path.arcs)))

-- a constrained path and its room
pub record IsConstrained (w : View) (path : TimingPath) (room : ℤ) : Type 0 where
  pub is_path : IsTimingPath w path
  pub has_room : path_room w path ≡ Some room

-- what arcs add up to under given delays
abbrev pub sum_over : (ArcId → ℤ) → List ArcId → ℤ
sum_over delay [] = pos 0
sum_over delay (x ∷ xs) = delay x +ℤ sum_over delay xs

abbrev pub least_delay : List Arc → ArcId → ℤ
least_delay arcs x = (arc_at arcs x.0).least

-- every constrained path meets its room under these delays
abbrev pub MeetsUnder : View → (ArcId → ℤ) → Type 0
MeetsUnder w delay = (path : TimingPath) (room : ℤ) → IsConstrained w path room → sum_over delay path.arcs ≤ℤ room

-- a constrained path of this slack at least delays
pub record HasSlack (w : View) (path : TimingPath) (slack : ℤ) : Type 0 where
  pub room : ℤ
  pub constrained : IsConstrained w path room
  pub slack_is : slack ≡ room -ℤ sum_over (least_delay w.arcs) path.arcs

-- no constrained path has less slack at least delays, and one has this
pub record IsLeastPathSlack (w : View) (slack : ℤ) : Type 0 where
  pub attained : (path : TimingPath) × HasSlack w path slack
  pub least : (path : TimingPath) (other : ℤ) → HasSlack w path other → slack ≤ℤ other
