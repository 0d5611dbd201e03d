-- What a block's file gives the block's design: launches and captures at its port bits for the nodes of the layering there, and at clock pins and data pins
-- those of the whole design.
use Rattle.std.specs.Prelude.{◌≡◌, ◌⊎◌, ℕ, ◌<◌, ℤ, ◌-ℤ◌, true, List, length, Contains}
use Rattle.bud_design.specs.declared.clocks.Capture.{Capture}
use Rattle.bud_design.specs.declared.clocks.Constraints.{Constraints}
use Rattle.bud_design.specs.declared.clocks.Launch.{Launch}
use Rattle.bud_design.specs.declared.layers.Class.{Class}
use Rattle.bud_design.specs.Designs.{pin_at, is_inside}
use Rattle.bud_design.specs.Layers.{class_number, Stands}
use Rattle.bud_design.specs.TimingPaths.{launch_at}
use Rattle.block_theory.specs.BlockExceptions.{own_class}
use Rattle.block_theory.specs.BlockPorts.{Context, class_clock}
use Rattle.block_theory.specs.Blocks.{is_input_of, is_output_of}
use Rattle.block_theory.specs.Pieces.{PieceBegins, ArrivesAt}
use Rattle.block_pieces.specs.Standing.{IsPortCaptureOf, IsCheckCaptureOf, LaunchesClass, HasFileParts}

-- a launch of the block's design stands for a class, and begins its pieces
pub record Launches (x : Context) (arrivals : List ℤ) (l : Launch) (k : Class) : Type 0 where
  pub stands : LaunchesClass x l k
  pub begins : PieceBegins x arrivals l.pin.0 k l.offset

pub record HasLaunch (x : Context) (arrivals : List ℤ) (block : Constraints) (u : ℕ) (k : Class) : Type 0 where
  pub number : ℕ
  pub below : number < length block.launches
  pub pin : (launch_at block.launches number).pin.0 ≡ u
  pub launches : Launches x arrivals (launch_at block.launches number) k

-- a capture at an output bit leaves of the period what the arrival takes
pub record EndsAtPort (x : Context) (arrivals : List ℤ) (y : Capture) : Type 0 where
  pub number : ℕ
  pub capture : IsPortCaptureOf x y number
  pub arrival : ℤ
  pub arrives : ArrivesAt x.layered arrivals y.pin.0 (class_number x.layered.classes number) arrival
  pub amount : y.amount ≡ (class_clock x.all x.layered number).period -ℤ arrival

-- one at a data pin is one of the whole design
pub record EndsAtCheck (x : Context) (top : Constraints) (y : Capture) : Type 0 where
  pub whole : Capture
  pub is_capture : Contains top.captures whole
  pub capture : IsCheckCaptureOf x y whole
  pub amount : y.amount ≡ whole.amount

-- the launches and captures of the block's design, by its file
pub record IsBlockReading (x : Context) (arrivals : List ℤ) (top block : Constraints) : Type 0 where
  pub parts : HasFileParts x block
  pub launches : (i : ℕ) → i < length block.launches → (k : Class) × Launches x arrivals (launch_at block.launches i) k
  pub port_launch : (n u : ℕ) (k : Class) → Stands x.layered.classes x.layered.nodes n u k → is_input_of x.design x.block u ≡ true → HasLaunch x arrivals block u k
  pub clock_launch : (i : ℕ) → i < length x.all.launches → is_inside x.design.places x.block (pin_at x.design.pins (launch_at x.all.launches i).pin.0).place ≡ true
      → HasLaunch x arrivals block (launch_at x.all.launches i).pin.0 (own_class x.all (launch_at x.all.launches i))
  pub captures : (y : Capture) → Contains block.captures y → EndsAtPort x arrivals y ⊎ EndsAtCheck x top y
  pub port_capture : (n w : ℕ) (k : Class) → Stands x.layered.classes x.layered.nodes n w k → is_output_of x.design x.block w ≡ true
      → (y : Capture) × (Contains block.captures y × (y.pin.0 ≡ w) × ((j : ℕ) × (IsPortCaptureOf x y j × (class_number x.layered.classes j ≡ k))))
  pub check_capture : (z : Capture) → Contains top.captures z → is_inside x.design.places x.block (pin_at x.design.pins z.pin.0).place ≡ true
      → (y : Capture) × (Contains block.captures y × IsCheckCaptureOf x y z × (y.amount ≡ z.amount))
