-- Parts of a block's exceptions that the block's design accepts.
use Rattle.std.specs.Prelude.{◌≡◌, ℕ, ◌<◌, Bool, true, length, All, Contains}
use Rattle.bud_design.specs.Arcs.{is_clocked}
use Rattle.bud_design.specs.Designs.{pin_at, is_pin_of}
use Rattle.timing_objects.specs.Objects.{Subject, is_checked}
use Rattle.block_theory.specs.BlockClocks.{real_clocks}
use Rattle.block_theory.specs.BlockExceptions.{Part, Form}
use Rattle.block_theory.specs.BlockPorts.{Context, node_at, node_class, port_classes}

-- a pin of the block that is such
pub record IsPinSuch (x : Context) (is_such : ℕ → Bool) (v : ℕ) : Type 0 where
  pub below : v < length x.design.pins
  pub inside : is_pin_of x.design x.block v ≡ true
  pub such : is_such v ≡ true

-- pins that are such, real clocks, and classes at ports
pub record IsReadPart (x : Context) (is_such : ℕ → Bool) (p : Part) : Type 0 where
  pub pins : All (IsPinSuch x is_such) p.pins
  pub reals : All (Contains (real_clocks x)) p.reals
  pub virtuals : All (Contains (port_classes x)) p.virtuals

-- a form begins at clock pins and ends at data pins
pub record IsReadForm (x : Context) (f : Form) : Type 0 where
  pub from : IsReadPart x (is_clocked x.timing) f.from
  pub to : IsReadPart x (is_checked x.timing) f.to

-- the design of the block
abbrev pub subject_of : Context → Subject
subject_of x = record { design = x.design; root = x.block; timing = x.timing }

-- a node of the layering at a port bit of the block, of a class at its ports
pub record IsDelayNode (x : Context) (n : ℕ) : Type 0 where
  pub below : (node_at x.layered.nodes n).pin.0 < length x.design.pins
  pub place : (pin_at x.design.pins (node_at x.layered.nodes n).pin.0).place ≡ x.block
  pub «class» : Contains (port_classes x) (node_class x.layered n)
