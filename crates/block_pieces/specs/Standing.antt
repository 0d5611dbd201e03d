-- The launches and captures of a block's design under its file: at port bits on virtual clocks, and at clock pins and data pins on real clocks.
use Rattle.std.specs.Prelude.{◌≡◌, ◌⊎◌, ℕ, ◌<◌, nat_lt, pos, ◌≤ℤ◌, true, false, length, All, AllPairs, Contains}
use Rattle.bud_design.specs.declared.clocks.Capture.{Capture}
use Rattle.bud_design.specs.declared.clocks.Constraints.{Constraints}
use Rattle.bud_design.specs.declared.clocks.Launch.{Launch}
use Rattle.bud_design.specs.declared.layers.Class.{Class}
use Rattle.bud_design.specs.Arcs.{is_clocked}
use Rattle.bud_design.specs.Designs.{pin_at, is_inside, is_pin_of}
use Rattle.bud_design.specs.Exceptions.{has_pin}
use Rattle.bud_design.specs.Layers.{class_number}
use Rattle.timing_objects.specs.Objects.{is_checked}
use Rattle.block_theory.specs.BlockClocks.{real_clocks}
use Rattle.block_theory.specs.BlockExceptions.{own_class, block_forms}
use Rattle.block_theory.specs.BlockPorts.{Context, class_clock, input_classes, output_classes}
use Rattle.block_theory.specs.Blocks.{is_input_of, is_output_of}
use Rattle.block_theory.specs.BlockScopes.{real_number, virtual_number, block_clocks, exceptions_from}

-- at an input bit, on the virtual clock of a class
pub record IsPortLaunchOf (x : Context) (l : Launch) (k : ℕ) : Type 0 where
  pub «class» : Contains (input_classes x) k
  pub clock : l.clock ≡ virtual_number x k
  pub edge : l.edge ≡ (class_number x.layered.classes k).edge
  pub input : is_input_of x.design x.block l.pin.0 ≡ true

-- at a clock pin, as a launch of the whole design
pub record IsClockLaunchOf (x : Context) (l m : Launch) : Type 0 where
  pub clocked : is_clocked x.timing l.pin.0 ≡ true
  pub below : l.pin.0 < length x.design.pins
  pub inside : is_pin_of x.design x.block l.pin.0 ≡ true
  pub launch : Contains x.all.launches m
  pub pin : m.pin ≡ l.pin
  pub edge : l.edge ≡ m.edge
  pub real : Contains (real_clocks x) m.clock
  pub clock : l.clock ≡ real_number x m.clock
  -- all launches at the pin begin in one class
  pub alone : (o : Launch) → Contains x.all.launches o → o.pin.0 ≡ m.pin.0 → own_class x.all o ≡ own_class x.all m

-- at an output bit, on the virtual clock of a class
pub record IsPortCaptureOf (x : Context) (y : Capture) (j : ℕ) : Type 0 where
  pub «class» : Contains (output_classes x) j
  pub clock : y.clock ≡ virtual_number x j
  pub edge : y.edge ≡ (class_number x.layered.classes j).edge
  pub output : is_output_of x.design x.block y.pin.0 ≡ true

-- at a data pin, as a capture of the whole design
pub record IsCheckCaptureOf (x : Context) (y z : Capture) : Type 0 where
  pub checked : is_checked x.timing y.pin.0 ≡ true
  pub below : y.pin.0 < length x.design.pins
  pub inside : is_pin_of x.design x.block y.pin.0 ≡ true
  pub pin : z.pin ≡ y.pin
  pub edge : y.edge ≡ z.edge
  pub real : Contains (real_clocks x) z.clock
  pub clock : y.clock ≡ real_number x z.clock

-- a launch of the block's design stands for a class
pub record IsPortClass (x : Context) (l : Launch) (k : Class) : Type 0 where
  pub number : ℕ
  pub launch : IsPortLaunchOf x l number
  pub class_is : k ≡ class_number x.layered.classes number

pub record IsClockClass (x : Context) (l : Launch) (k : Class) : Type 0 where
  pub whole : Launch
  pub launch : IsClockLaunchOf x l whole
  pub class_is : k ≡ own_class x.all whole

abbrev pub LaunchesClass : Context → Launch → Class → Type 0
LaunchesClass x l k = IsPortClass x l k ⊎ IsClockClass x l k

-- the block's constraints have the clocks and the exceptions of its file
pub record HasFileParts (x : Context) (block : Constraints) : Type 0 where
  pub clocks : block.clocks ≡ block_clocks x
  pub number : ℕ
  pub exceptions : block.exceptions ≡ exceptions_from x number (block_forms x)

-- what the table of requirements asks of a context
pub record HasTable (x : Context) : Type 0 where
  pub input_unclocked : (v : ℕ) → is_input_of x.design x.block v ≡ true → is_clocked x.timing v ≡ false
  pub output_unchecked : (v : ℕ) → is_output_of x.design x.block v ≡ true → is_checked x.timing v ≡ false
  pub differ : (i k : ℕ) → i < length x.layered.classes → k < length x.layered.classes → class_number x.layered.classes i ≡ class_number x.layered.classes k → i ≡ k
  pub periods : (k : ℕ) → k < length x.layered.classes → pos 2 ≤ℤ (class_clock x.all x.layered k).period
  pub rise : AllPairs (λ e f. nat_lt e.number f.number ≡ true) x.all.exceptions
  -- no pin inside the block is a through pin
  pub lacks : (v : ℕ) → is_inside x.design.places x.block (pin_at x.design.pins v).place ≡ true → All (λ e. All (λ g. has_pin g v ≡ false) e.groups) x.all.exceptions
