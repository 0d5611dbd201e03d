-- The marks of pins and instances that the entries of a delay file make.
use Rattle.std.specs.Prelude.{◌≡◌, ℕ, ◌==◌, length, List}
use Rattle.std.specs.List.{list_any}
use Rattle.bud_design.specs.Designs.{Design}
use Rattle.registers.specs.Registers.{is_clock_pin, is_register}
use Rattle.registers.specs.Marks.{mark_at, AreCheckEdges, AreNamedEdges}
use Rattle.registers.specs.declared.entries.Through.{Through}
use Rattle.registers.specs.declared.entries.Setup.{Setup}
use Rattle.registers.specs.declared.register_marks.RegisterMarks.{RegisterMarks}

pub record AreMarks (d : Design) (throughs : List Through) (setups : List Setup) (m : RegisterMarks) : Type 0 where
  pub clock_pins : length m.clocks.items ≡ length d.pins
  pub checked_pins : length m.checked.items ≡ length d.pins
  pub named_pins : length m.named.items ≡ length d.pins
  pub edge_pins : length m.edges.items ≡ length d.pins
  pub places : length m.registers.items ≡ length d.places
  pub clocks : (v : ℕ) → mark_at m.clocks.items v ≡ is_clock_pin setups v
  pub checked : (v : ℕ) → mark_at m.checked.items v ≡ list_any (λ s. s.pin.0 == v) setups
  pub registers : (p : ℕ) → mark_at m.registers.items p ≡ is_register d setups p
  pub named : AreNamedEdges throughs m.named.items
  pub edges : AreCheckEdges setups m.edges.items
