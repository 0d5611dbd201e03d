-- The pieces of top paths inside a block, of four kinds, and their rooms under the block's file.
use Rattle.std.specs.Prelude.{◌≡◌, ◌⊎◌, ℕ, ◌<◌, ℤ, pos, ◌-ℤ◌, true, false, List, [], ◌∷◌, ◌++◌, length, All, Contains, Some}
use Rattle.bud_base.specs.declared.ids.ArcId.{ArcId}
use Rattle.bud_design.specs.declared.clocks.Launch.{Launch}
use Rattle.bud_design.specs.declared.clocks.Constraints.{Constraints}
use Rattle.bud_design.specs.declared.layers.Class.{Class}
use Rattle.bud_design.specs.declared.layers.Layered.{Layered}
use Rattle.bud_design.specs.declared.policies.NumberedCommand.{NumberedCommand}
use Rattle.bud_design.specs.Arcs.{Arc, is_clocked}
use Rattle.bud_design.specs.Clocks.{clock_at}
use Rattle.bud_design.specs.Designs.{Design}
use Rattle.bud_design.specs.Exceptions.{class_requirement}
use Rattle.bud_design.specs.Layers.{class_number, class_behind, Stands}
use Rattle.bud_design.specs.TimingPaths.{View, TimingPath, IsConstrained, path_start, last_pin, least_asked}
use Rattle.bud_flow.specs.Sums.{number_at}
use Rattle.requirements.specs.Constraining.{AreConstraints}
use Rattle.timing_objects.specs.Objects.{is_checked}
use Rattle.block_theory.specs.BlockClocks.{virtual_name}
use Rattle.block_theory.specs.BlockExceptions.{own_class}
use Rattle.block_theory.specs.BlockFiles.{block_commands, numbered_from}
use Rattle.block_theory.specs.BlockPorts.{Context}
use Rattle.block_theory.specs.Blocks.{is_input_of, is_output_of, is_arc_in}
use Rattle.block_theory.specs.Meeting.{Numbers, AreNumbers, subject_with}

-- a list of arcs ends, or begins, outside a block, or has none
abbrev pub EndsOutside : Design → List Arc → ℕ → List ArcId → Type 0
EndsOutside d arcs b front = (first : List ArcId) (x : ArcId) → front ≡ first ++ x ∷ [] → is_arc_in d arcs b x ≡ false

abbrev pub BeginsOutside : Design → List Arc → ℕ → List ArcId → Type 0
BeginsOutside d arcs b rest = (x : ArcId) (others : List ArcId) → rest ≡ x ∷ others → is_arc_in d arcs b x ≡ false

-- a piece of a constrained path in a block: arcs inside it, as many as there are one behind the other, with the pin and the class in which they begin
pub record IsPiece (w : View) (b : ℕ) (u : ℕ) (k : Class) (arcs : List ArcId) : Type 0 where
  pub path : TimingPath
  pub room : ℤ
  pub constrained : IsConstrained w path room
  pub front : List ArcId
  pub rest : List ArcId
  pub parts : path.arcs ≡ front ++ (arcs ++ rest)
  pub some : 0 < length arcs
  pub within : All (λ x. is_arc_in w.design w.arcs b x ≡ true) arcs
  pub before : EndsOutside w.design w.arcs b front
  pub behind : BeginsOutside w.design w.arcs b rest
  pub pin_is : u ≡ last_pin w.arcs (path_start w path).pin.0 front
  pub class_is : k ≡ class_behind w path front

-- the arrival of a pin in a class
pub record ArrivesAt (layered : Layered) (arrivals : List ℤ) (v : ℕ) (k : Class) (time : ℤ) : Type 0 where
  pub node : ℕ
  pub stands : Stands layered.classes layered.nodes node v k
  pub time_is : time ≡ number_at arrivals node

-- when a piece of a class begins: at an input bit with its arrival, or at a clock pin at 0
abbrev pub PieceBegins : Context → List ℤ → ℕ → Class → ℤ → Type 0
PieceBegins x arrivals u k time =
    ((is_input_of x.design x.block u ≡ true) × ArrivesAt x.layered arrivals u k time)
    ⊎ ((is_clocked x.timing u ≡ true) × (time ≡ pos 0))

-- by when it ends: at an output bit by its arrival, or at a data pin by what the captures there ask of the class; `top` has their amounts in hand
abbrev pub PieceEnds : Context → List ℤ → Constraints → ℕ → Class → ℤ → Type 0
PieceEnds x arrivals top w k time =
    ((is_output_of x.design x.block w ≡ true) × ArrivesAt x.layered arrivals w k time)
    ⊎ ((is_checked x.timing w ≡ true) × (least_asked top.captures w (class_requirement top k) ≡ Some time))

-- the room of a piece of a class from one pin to another: four kinds, by how it begins and how it ends
pub record IsPieceRoom (x : Context) (arrivals : List ℤ) (top : Constraints) (u w : ℕ) (k : Class) (room : ℤ) : Type 0 where
  pub start : ℤ
  pub begins : PieceBegins x arrivals u k start
  pub end : ℤ
  pub ends : PieceEnds x arrivals top w k end
  pub room_is : room ≡ end -ℤ start

-- a launch of the block's design is on the virtual clock of a class
pub record IsVirtualLaunch (x : Context) (block : Constraints) (l : Launch) (k : Class) : Type 0 where
  pub number : ℕ
  pub below : number < length x.layered.classes
  pub class_is : k ≡ class_number x.layered.classes number
  pub clock : (clock_at block.clocks l.clock).name ≡ virtual_name x number

-- or stands at a clock pin that launches in a class in the whole design
pub record IsOwnLaunch (x : Context) (l : Launch) (k : Class) : Type 0 where
  pub clocked : is_clocked x.timing l.pin.0 ≡ true
  pub launch : Launch
  pub is_launch : Contains x.all.launches launch
  pub pin_is : launch.pin ≡ l.pin
  pub class_is : k ≡ own_class x.all launch

-- in either case it stands for the class
abbrev pub StandsForClass : Context → Constraints → Launch → Class → Type 0
StandsForClass x block l k = IsVirtualLaunch x block l k ⊎ IsOwnLaunch x l k

-- the whole design, and the design of the block
abbrev pub top_view : Context → List Arc → Constraints → View
top_view x arcs top = record { design = x.design; root = 0; arcs = arcs; all = top }

abbrev pub block_view : Context → List Arc → Constraints → View
block_view x arcs block = record { design = x.design; root = x.block; arcs = arcs; all = block }

-- a constrained path of the block's design whose launch stands for a class
pub record IsPathInClass (x : Context) (arcs : List Arc) (block : Constraints) (k : Class) (path : TimingPath) (room : ℤ) : Type 0 where
  pub constrained : IsConstrained (block_view x arcs block) path room
  pub stands : StandsForClass x block (path_start (block_view x arcs block) path) k

-- a path that is a piece of a top path, with the piece's room
pub record IsPieceOf (x : Context) (arcs : List Arc) (arrivals : List ℤ) (top : Constraints) (u : ℕ) (k : Class) (cs : List ArcId) (room : ℤ) : Type 0 where
  pub piece : IsPiece (top_view x arcs top) x.block u k cs
  pub has_room : IsPieceRoom x arrivals top u (last_pin arcs u cs) k room

-- under the block's constraints a path is constrained exactly where it is a piece, with the piece's room
pub record ArePieces (x : Context) (arcs : List Arc) (arrivals : List ℤ) (top block : Constraints) : Type 0 where
  pub sound : (path : TimingPath) (room : ℤ) → IsConstrained (block_view x arcs block) path room
      → (k : Class) × (IsPathInClass x arcs block k path room × IsPieceOf x arcs arrivals top (path_start (block_view x arcs block) path).pin.0 k path.arcs room)
  pub complete : (u : ℕ) (k : Class) (cs : List ArcId) → IsPiece (top_view x arcs top) x.block u k cs
      → (path : TimingPath) × ((room : ℤ) × (IsPathInClass x arcs block k path room × IsPieceRoom x arrivals top u (last_pin arcs u cs) k room × (path.arcs ≡ cs)))

-- the piece law: what a block's file says for any arrivals, whatever the amounts of setup checks
abbrev pub PieceLaw : Context → List Arc → List NumberedCommand → List ℤ → Type 0
PieceLaw x arcs commands arrivals =
    (n : Numbers) (top block : Constraints) → AreNumbers arcs x.timing n
    → AreConstraints (subject_with x.design 0 x.timing n) commands top
    → AreConstraints (subject_with x.design x.block x.timing n) (numbered_from 1 (block_commands x arrivals)) block
    → ArePieces x arcs arrivals top block
