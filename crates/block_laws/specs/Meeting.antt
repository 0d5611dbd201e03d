-- Setup amounts in hand beside those as read, and blocks whose pieces meet their rooms.
use Rattle.std.specs.Prelude.{◌≡◌, ℕ, ℤ, ◌≤ℤ◌, List, Some}
use Rattle.bud_base.specs.declared.ids.ArcId.{ArcId}
use Rattle.bud_design.specs.declared.clocks.Capture.{Capture}
use Rattle.bud_design.specs.declared.clocks.Constraints.{Constraints}
use Rattle.bud_design.specs.declared.layers.Class.{Class}
use Rattle.bud_design.specs.Arcs.{Arc}
use Rattle.bud_design.specs.Designs.{Design}
use Rattle.bud_design.specs.Exceptions.{class_requirement}
use Rattle.bud_design.specs.TimingPaths.{least_asked, last_pin, sum_over}
use Rattle.block_theory.specs.BlockPorts.{Context}
use Rattle.block_theory.specs.Composition.{IsOutside}
use Rattle.block_theory.specs.Pieces.{IsPiece, IsPieceRoom, top_view}

-- the constraints with other captures
abbrev pub with_captures : Constraints → List Capture → Constraints
with_captures all captures = record { clocks = all.clocks; launches = all.launches; captures = captures; exceptions = all.exceptions; unclocked = all.unclocked }

-- captures of other amounts ask for something exactly where those as read do, and outside blocks for the same
pub record AskAlike (d : Design) (all : Constraints) (captures : List Capture) (blocks : List ℕ) : Type 0 where
  pub to_read : (v : ℕ) (k : Class) (r : ℤ) → least_asked captures v (class_requirement all k) ≡ Some r → (s : ℤ) × (least_asked all.captures v (class_requirement all k) ≡ Some s)
  pub from_read : (v : ℕ) (k : Class) (s : ℤ) → least_asked all.captures v (class_requirement all k) ≡ Some s → (r : ℤ) × (least_asked captures v (class_requirement all k) ≡ Some r)
  pub outside : (v : ℕ) (k : Class) → IsOutside d blocks v → least_asked captures v (class_requirement all k) ≡ least_asked all.captures v (class_requirement all k)

-- a piece takes at most its room
pub record MeetsPieceRoom (x : Context) (arcs : List Arc) (arrivals : List ℤ) (top : Constraints) (delay : ArcId → ℤ) (u : ℕ) (k : Class) (cs : List ArcId) : Type 0 where
  pub room : ℤ
  pub has_room : IsPieceRoom x arrivals top u (last_pin arcs u cs) k room
  pub within : sum_over delay cs ≤ℤ room

-- every piece of a top path in the block does
abbrev pub PiecesMeet : Context → List Arc → List ℤ → Constraints → (ArcId → ℤ) → Type 0
PiecesMeet x arcs arrivals top delay =
    (u : ℕ) (k : Class) (cs : List ArcId) → IsPiece (top_view x arcs top) x.block u k cs → MeetsPieceRoom x arcs arrivals top delay u k cs
