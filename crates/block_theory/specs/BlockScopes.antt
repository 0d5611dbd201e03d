-- What a block's file means, over pins, clocks and classes: the clocks, port delays and exceptions that its commands give the block's design.
use Rattle.std.specs.Prelude.{ℕ, suc, ◌+◌, ◌==◌, ℤ, List, [], ◌∷◌, ◌++◌, map, length, Some, unwrap_or}
use Rattle.std.specs.List.{position_from}
use Rattle.bud_base.specs.declared.ids.PinId.{PinId}
use Rattle.bud_design.specs.declared.clocks.Clock.{Clock}
use Rattle.bud_design.specs.declared.clocks.Exception.{Exception}
use Rattle.bud_design.specs.declared.clocks.Marks.{Marks}
use Rattle.bud_design.specs.Clocks.{clock_at}
use Rattle.bud_design.specs.Layers.{class_number}
use Rattle.timing_scopes.specs.declared.scopes.PinDelay.{PinDelay}
use Rattle.timing_scopes.specs.declared.scopes.Scope.{Scope}
use Rattle.block_theory.specs.BlockClocks.{bits_reached, sources_inside, real_clocks, virtual_name}
use Rattle.block_theory.specs.BlockExceptions.{Part, Form, block_forms}
use Rattle.block_theory.specs.BlockFiles.{input_amount, output_amount}
use Rattle.block_theory.specs.BlockPorts.{Context, node_at, node_class, class_clock, port_classes, input_nodes, output_nodes}

abbrev pub pin_ids : List ℕ → List PinId
pin_ids vs = map (λ v. record { 0 = v }) vs

-- the clock of a clock of the top, and that of a class
abbrev pub clock_from : Clock → List ℕ → List ℕ → Clock
clock_from c name sources = record { name = name; period = c.period; rise = c.rise; fall = c.fall; sources = pin_ids sources }

abbrev pub real_as : Context → ℕ → Clock
real_as x c = clock_from (clock_at x.all.clocks c) (clock_at x.all.clocks c).name (bits_reached x c ++ sources_inside x c)

abbrev pub virtual_as : Context → ℕ → Clock
virtual_as x k = clock_from (class_clock x.all x.layered k) (virtual_name x k) []

abbrev pub block_clocks : Context → List Clock
block_clocks x = map (real_as x) (real_clocks x) ++ map (virtual_as x) (port_classes x)

-- their numbers in the block's design
abbrev pub place_in : List ℕ → ℕ → ℕ
place_in ns n = unwrap_or (position_from (λ m. m == n) 0 ns) 0

abbrev pub real_number : Context → ℕ → ℕ
real_number x c = place_in (real_clocks x) c

abbrev pub virtual_number : Context → ℕ → ℕ
virtual_number x k = length (real_clocks x) + place_in (port_classes x) k

-- the delay at a node of a port bit
abbrev pub delay_as : Context → (ℕ → ℤ) → ℕ → PinDelay
delay_as x amount n = record {
  pin = (node_at x.layered.nodes n).pin;
  clock = virtual_number x (node_class x.layered n);
  edge = (class_number x.layered.classes (node_class x.layered n)).edge;
  amount = amount n;
}

-- what a part marks
abbrev pub marks_as : Context → Part → Marks
marks_as x p = record { pins = pin_ids p.pins; clocks = map (real_number x) p.reals ++ map (virtual_number x) p.virtuals }

abbrev pub exceptions_from : Context → ℕ → List Form → List Exception
exceptions_from x number [] = []
exceptions_from x number (f ∷ fs) =
    record { number = number; kind = f.kind; from = Some (marks_as x f.from); groups = []; to = Some (marks_as x f.to) } ∷ exceptions_from x (suc number) fs

-- exceptions are numbered behind the clocks and the delays
abbrev pub first_form : Context → ℕ
first_form x = suc (length (block_clocks x) + (length (input_nodes x.design x.layered x.block) + length (output_nodes x.design x.layered x.block)))

abbrev pub block_scope : Context → List ℤ → Scope
block_scope x arrivals = record {
  clocks = block_clocks x;
  inputs = map (delay_as x (input_amount arrivals)) (input_nodes x.design x.layered x.block);
  outputs = map (delay_as x (output_amount x.all x.layered arrivals)) (output_nodes x.design x.layered x.block);
  exceptions = exceptions_from x (first_form x) (block_forms x);
}
