-- Worked examples of block files, by computation: a registered block behind a buffer, without exceptions, and with a maximum delay through the buffer; and two
-- blocks in a row, each with a clock of its own.
use Rattle.std.specs.Prelude.{◌≡◌, ℕ, ℤ, pos, true, false, List, [], ◌∷◌, ◌++◌, map, codes, decimal, Option, Some, None}
use Rattle.std.proofs.Common.{refl}
use Rattle.bud_base.specs.declared.ids.PinId.{PinId}
use Rattle.bud_syntax.specs.declared.constraints.Object.TheVariants.{Ports, Pins, Clocks}
use Rattle.bud_syntax.specs.declared.constraints.SdcCommand.TheVariants as command
use Rattle.bud_syntax.specs.declared.edges.Edge.TheVariants.{Rise}
use Rattle.bud_syntax.specs.declared.modules.Dir.{Dir}
use Rattle.bud_syntax.specs.declared.modules.Dir.TheVariants.{Input, Output}
use Rattle.bud_design.specs.declared.clocks.Constraints.{Constraints}
use Rattle.bud_design.specs.declared.clocks.Exception.{Exception}
use Rattle.bud_design.specs.declared.clocks.ExceptionKind.TheVariants.{MaxDelay}
use Rattle.bud_design.specs.declared.designs.Pin.{Pin}
use Rattle.bud_design.specs.declared.designs.Place.{Place}
use Rattle.bud_design.specs.declared.layers.Class.{Class}
use Rattle.bud_design.specs.declared.layers.LayerNode.{LayerNode}
use Rattle.bud_design.specs.declared.timings.Timing.{Timing}
use Rattle.bud_design.specs.Designs.{Design}
use Rattle.block_theory.specs.BlockFiles.{block_commands}
use Rattle.block_theory.specs.BlockPorts.{Context}
use Rattle.block_theory.specs.BlockValues.{through_name}

abbrev id : ℕ → PinId
id v = record { 0 = v }

abbrev place : List ℕ → List ℕ → Option ℕ → Place
place name cell parent = record { name = name; «module» = cell; leaf = false; parent = parent }

abbrev leaf : List ℕ → List ℕ → ℕ → Place
leaf name cell parent = record { name = name; «module» = cell; leaf = true; parent = Some parent }

abbrev pin : ℕ → List ℕ → Dir → Pin
pin at_place port dir = record { place = at_place; port = port; bit = None; dir = dir }

-- top t: a buffer g before the block u, which has buffers b1 and b2 around a register r1
abbrev design : Design
design = record {
  places = place [] (codes "top") None ∷ leaf (codes "g") (codes "BUF") 0 ∷ place (codes "u") (codes "core") (Some 0) ∷ leaf (codes "b1") (codes "BUF") 2 ∷ leaf (codes "r1") (codes "DFF") 2 ∷ leaf (codes "b2") (codes "BUF") 2 ∷ [];
  pins =
      pin 0 (codes "clk") Input ∷ pin 0 (codes "in") Input ∷ pin 0 (codes "out") Output ∷ pin 1 (codes "A") Input ∷ pin 1 (codes "Z") Output ∷ pin 2 (codes "ck") Input ∷ pin 2 (codes "i") Input ∷ pin 2 (codes "o") Output
      ∷ pin 3 (codes "A") Input ∷ pin 3 (codes "Z") Output ∷ pin 4 (codes "CK") Input ∷ pin 4 (codes "D") Input ∷ pin 4 (codes "Q") Output ∷ pin 5 (codes "A") Input ∷ pin 5 (codes "Z") Output ∷ [];
  wires = [];
}

abbrev timing : Timing
timing = record { wires = []; pairs = []; checks = record { pin = id 11; clock = id 10; edge = Rise; amount = pos 50 } ∷ []; edges = record { pin = id 10; edge = Rise } ∷ []; left_out = 0 }

abbrev constraints : List Exception → Constraints
constraints exceptions = record {
  clocks = record { name = codes "C"; period = pos 2000; rise = pos 0; fall = pos 1000; sources = id 0 ∷ [] } ∷ [];
  launches = record { pin = id 1; clock = 0; edge = Rise; offset = pos 400 } ∷ record { pin = id 10; clock = 0; edge = Rise; offset = pos 0 } ∷ [];
  captures = record { pin = id 2; clock = 0; edge = Rise; amount = pos 500 } ∷ record { pin = id 11; clock = 0; edge = Rise; amount = pos 50 } ∷ [];
  exceptions = exceptions;
  unclocked = [];
}

abbrev nodes_in : ℕ → List ℕ → List LayerNode
nodes_in k vs = map (λ v. record { pin = id v; «class» = record { 0 = k } }) vs

abbrev context : List Exception → List Class → List LayerNode → Context
context exceptions classes nodes = record {
  design = design;
  timing = timing;
  all = constraints exceptions;
  layered = record { classes = classes; nodes = nodes; items = []; problem = record { nodes = 0; items = []; starts = []; ends = [] }; version = 1 };
  reached = None ∷ None ∷ None ∷ None ∷ None ∷ Some 0 ∷ None ∷ None ∷ None ∷ None ∷ Some 0 ∷ [];
  block = 2;
}

-- the names bud_0 and bud_1
abbrev virtual : ℕ → List ℕ
virtual k = codes "bud_" ++ decimal k

-- without exceptions there is one class
plain-file :
    block_commands (context [] (record { clock = 0; edge = Rise; exceptions = [] } ∷ []) (nodes_in 0 (1 ∷ 2 ∷ 3 ∷ 4 ∷ 6 ∷ 7 ∷ 8 ∷ 9 ∷ 10 ∷ 11 ∷ 12 ∷ 13 ∷ 14 ∷ [])))
    (pos 400 ∷ pos 1500 ∷ pos 400 ∷ pos 850 ∷ pos 850 ∷ pos 1500 ∷ pos 850 ∷ pos 1950 ∷ pos 0 ∷ pos 1950 ∷ pos 250 ∷ pos 250 ∷ pos 1500 ∷ [])
    ≡ command.Clock (codes "C") (pos 2000) (pos 0) (pos 1000) (Ports (codes "ck") ∷ []) ∷ command.Clock (virtual 0) (pos 2000) (pos 0) (pos 1000) []
    ∷ command.InputDelay (pos 850) (virtual 0) Rise true true (Ports (codes "i") ∷ []) ∷ command.OutputDelay (pos 500) (virtual 0) Rise true true (Ports (codes "o") ∷ []) ∷ []
plain-file = refl

abbrev through_buffer : Exception
through_buffer = record { number = 4; kind = MaxDelay (pos 1000); from = None; groups = (id 4 ∷ []) ∷ []; to = None }

-- with a maximum delay through the buffer's output there are two, and the file has two virtual clocks
grouped-file :
    block_commands
    (context (through_buffer ∷ []) (record { clock = 0; edge = Rise; exceptions = record { number = 4; steps = 0 } ∷ [] } ∷ record { clock = 0; edge = Rise; exceptions = record { number = 4; steps = 1 } ∷ [] } ∷ [])
    (nodes_in 0 (1 ∷ 2 ∷ 3 ∷ 7 ∷ 10 ∷ 12 ∷ 13 ∷ 14 ∷ []) ++ nodes_in 1 (4 ∷ 6 ∷ 8 ∷ 9 ∷ 11 ∷ [])))
    (pos 400 ∷ pos 1500 ∷ pos 400 ∷ pos 1500 ∷ pos 0 ∷ pos 250 ∷ pos 250 ∷ pos 1500 ∷ pos 520 ∷ pos 520 ∷ pos 520 ∷ pos 950 ∷ pos 950 ∷ [])
    ≡ command.Clock (codes "C") (pos 2000) (pos 0) (pos 1000) (Ports (codes "ck") ∷ []) ∷ command.Clock (virtual 0) (pos 2000) (pos 0) (pos 1000) [] ∷ command.Clock (virtual 1) (pos 2000) (pos 0) (pos 1000) []
    ∷ command.InputDelay (pos 520) (virtual 1) Rise true true (Ports (codes "i") ∷ []) ∷ command.OutputDelay (pos 500) (virtual 0) Rise true true (Ports (codes "o") ∷ [])
    ∷ command.FalsePath true (Some (Clocks (virtual 1) ∷ [])) [] (Some (Clocks (virtual 0) ∷ []))
    ∷ command.MaxDelay (pos 1000) (Some (Clocks (virtual 1) ∷ [])) [] (Some (Clocks (codes "C") ∷ [])) ∷ []
grouped-file = refl

-- a through pin at the block's port is refused by its name, and one outside isn't
through-port : through_name design (constraints (record { number = 4; kind = MaxDelay (pos 1000); from = None; groups = (id 6 ∷ []) ∷ []; to = None } ∷ [])) (2 ∷ []) ≡ Some (codes "u/i")
through-port = refl

through-outside : through_name design (constraints (through_buffer ∷ [])) (2 ∷ []) ≡ None
through-outside = refl

-- ---- the first block's register has clock C2 and drives a gate that the block's input drives too; the second block's has clock C1
abbrev pair_design : Design
pair_design = record {
  places = place [] (codes "top") None ∷ place (codes "x1") (codes "m1") (Some 0) ∷ leaf (codes "r") (codes "DFF") 1 ∷ leaf (codes "g") (codes "AND2") 1 ∷ place (codes "x2") (codes "m2") (Some 0) ∷ leaf (codes "s") (codes "DFF") 4 ∷ [];
  pins =
      pin 0 (codes "p1") Input ∷ pin 0 (codes "p2") Input ∷ pin 0 (codes "in") Input ∷ pin 0 (codes "out") Output ∷ pin 1 (codes "k") Input ∷ pin 1 (codes "a") Input ∷ pin 1 (codes "y") Output
      ∷ pin 2 (codes "CK") Input ∷ pin 2 (codes "D") Input ∷ pin 2 (codes "Q") Output ∷ pin 3 (codes "A") Input ∷ pin 3 (codes "B") Input ∷ pin 3 (codes "Z") Output
      ∷ pin 4 (codes "k") Input ∷ pin 4 (codes "a") Input ∷ pin 4 (codes "y") Output ∷ pin 5 (codes "CK") Input ∷ pin 5 (codes "D") Input ∷ pin 5 (codes "Q") Output ∷ [];
  wires = [];
}

abbrev pair_timing : Timing
pair_timing = record {
  wires = [];
  pairs = [];
  checks = record { pin = id 8; clock = id 7; edge = Rise; amount = pos 100 } ∷ record { pin = id 17; clock = id 16; edge = Rise; amount = pos 100 } ∷ [];
  edges = record { pin = id 7; edge = Rise } ∷ record { pin = id 16; edge = Rise } ∷ [];
  left_out = 0;
}

abbrev pair_constraints : Constraints
pair_constraints = record {
  clocks = record { name = codes "C1"; period = pos 10000; rise = pos 0; fall = pos 5000; sources = id 0 ∷ [] } ∷ record { name = codes "C2"; period = pos 15000; rise = pos 0; fall = pos 7500; sources = id 1 ∷ [] } ∷ [];
  launches = record { pin = id 2; clock = 0; edge = Rise; offset = pos 1000 } ∷ record { pin = id 7; clock = 1; edge = Rise; offset = pos 0 } ∷ record { pin = id 16; clock = 0; edge = Rise; offset = pos 0 } ∷ [];
  captures = record { pin = id 3; clock = 0; edge = Rise; amount = pos 2000 } ∷ record { pin = id 8; clock = 1; edge = Rise; amount = pos 100 } ∷ record { pin = id 17; clock = 0; edge = Rise; amount = pos 100 } ∷ [];
  exceptions = [];
  unclocked = [];
}

-- class 0 is the rise of C1, and class 1 that of C2
abbrev pair_context : ℕ → Context
pair_context b = record {
  design = pair_design;
  timing = pair_timing;
  all = pair_constraints;
  layered = record {
    classes = record { clock = 0; edge = Rise; exceptions = [] } ∷ record { clock = 1; edge = Rise; exceptions = [] } ∷ [];
    nodes = nodes_in 0 (2 ∷ 3 ∷ 5 ∷ 6 ∷ 8 ∷ 10 ∷ 12 ∷ 14 ∷ 15 ∷ 16 ∷ 17 ∷ 18 ∷ []) ++ nodes_in 1 (6 ∷ 7 ∷ 9 ∷ 11 ∷ 12 ∷ 14 ∷ 17 ∷ []);
    items = [];
    problem = record { nodes = 0; items = []; starts = []; ends = [] };
    version = 1;
  };
  reached = None ∷ None ∷ None ∷ None ∷ Some 1 ∷ None ∷ None ∷ Some 1 ∷ None ∷ None ∷ None ∷ None ∷ None ∷ Some 0 ∷ None ∷ None ∷ Some 0 ∷ [];
  block = b;
}

abbrev pair_arrivals : List ℤ
pair_arrivals =
    pos 1000 ∷ pos 8000 ∷ pos 1000 ∷ pos 4300 ∷ pos 1000 ∷ pos 1000 ∷ pos 4300 ∷ pos 4300 ∷ pos 500 ∷ pos 0 ∷ pos 9900 ∷ pos 500
    ∷ pos 3900 ∷ pos 0 ∷ pos 500 ∷ pos 500 ∷ pos 3900 ∷ pos 3900 ∷ pos 4900 ∷ []

first-of-pair :
    block_commands (pair_context 1) pair_arrivals
    ≡ command.Clock (codes "C2") (pos 15000) (pos 0) (pos 7500) (Ports (codes "k") ∷ [])
    ∷ command.Clock (virtual 0) (pos 10000) (pos 0) (pos 5000) [] ∷ command.Clock (virtual 1) (pos 15000) (pos 0) (pos 7500) []
    ∷ command.InputDelay (pos 1000) (virtual 0) Rise true true (Ports (codes "a") ∷ [])
    ∷ command.OutputDelay (pos 5700) (virtual 0) Rise true true (Ports (codes "y") ∷ []) ∷ command.OutputDelay (pos 11100) (virtual 1) Rise true true (Ports (codes "y") ∷ [])
    ∷ command.FalsePath true (Some (Clocks (virtual 0) ∷ [])) [] (Some (Clocks (virtual 1) ∷ []))
    ∷ command.FalsePath true (Some (Pins (codes "r/CK") ∷ [])) [] (Some (Clocks (virtual 0) ∷ [])) ∷ []
first-of-pair = refl

second-of-pair :
    block_commands (pair_context 4) pair_arrivals
    ≡ command.Clock (codes "C1") (pos 10000) (pos 0) (pos 5000) (Ports (codes "k") ∷ [])
    ∷ command.Clock (virtual 0) (pos 10000) (pos 0) (pos 5000) [] ∷ command.Clock (virtual 1) (pos 15000) (pos 0) (pos 7500) []
    ∷ command.InputDelay (pos 4300) (virtual 0) Rise true true (Ports (codes "a") ∷ []) ∷ command.InputDelay (pos 3900) (virtual 1) Rise true true (Ports (codes "a") ∷ [])
    ∷ command.OutputDelay (pos 9500) (virtual 0) Rise true true (Ports (codes "y") ∷ [])
    ∷ command.FalsePath true (Some (Clocks (virtual 1) ∷ [])) [] (Some (Clocks (virtual 0) ∷ [])) ∷ []
second-of-pair = refl
