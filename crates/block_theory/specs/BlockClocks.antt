-- The clocks of a block's file: the clocks of the top that come into the block, and a virtual clock for each class at its ports.
use Rattle.std.specs.Prelude.{ℕ, suc, not, nat_lt, Bool, List, [], ◌++◌, map, length, filter, find, sum_by, replicate, take, codes, decimal, unwrap_or}
use Rattle.std.specs.List.{list_any, range_with_len}
use Rattle.std.specs.Str.{bytes_eq}
use Rattle.bud_syntax.specs.declared.constraints.Object.{Object}
use Rattle.bud_syntax.specs.declared.constraints.Object.TheVariants.{Ports, Pins, Clocks}
use Rattle.bud_syntax.specs.declared.constraints.SdcCommand.{SdcCommand}
use Rattle.bud_syntax.specs.declared.constraints.SdcCommand.TheVariants as command
use Rattle.bud_design.specs.declared.clocks.Clock.{Clock}
use Rattle.bud_design.specs.Clocks.{clock_at}
use Rattle.bud_design.specs.Designs.{pin_name, input_bits}
use Rattle.bud_design.specs.Exceptions.{has_pin}
use Rattle.bud_design.specs.Policies.{is_number}
use Rattle.clock_reach.specs.Walks.{mark_at}
use Rattle.block_theory.specs.BlockPorts.{Context, pins_where, class_clock, port_classes}

-- objects by the names that they have in the block's design
abbrev pub port_objects : Context → List ℕ → List Object
port_objects x vs = map (λ v. Ports (pin_name x.design x.block v)) vs

abbrev pub pin_objects : Context → List ℕ → List Object
pin_objects x vs = map (λ v. Pins (pin_name x.design x.block v)) vs

-- real clocks: a clock of the top comes in by the input bits that it reaches and by its sources inside
abbrev pub bits_reached : Context → ℕ → List ℕ
bits_reached x c = filter (λ v. is_number c (mark_at x.reached v)) (input_bits x.design x.block)

abbrev pub sources_inside : Context → ℕ → List ℕ
sources_inside x c = pins_where x (has_pin (clock_at x.all.clocks c).sources)

abbrev pub source_objects : Context → ℕ → List Object
source_objects x c = port_objects x (bits_reached x c) ++ pin_objects x (sources_inside x c)

-- in clock order
abbrev pub real_clocks : Context → List ℕ
real_clocks x = filter (λ c. nat_lt 0 (length (source_objects x c))) (range_with_len 0 (length x.all.clocks))

abbrev pub real_objects : Context → List ℕ → List Object
real_objects x cs = map (λ c. Clocks (clock_at x.all.clocks c).name) cs

-- a clock with the period and the waveform of another
abbrev pub clock_like : Clock → List ℕ → List Object → SdcCommand
clock_like c name sources = command.Clock name c.period c.rise c.fall sources

abbrev pub real_clock : Context → ℕ → SdcCommand
real_clock x c = clock_like (clock_at x.all.clocks c) (clock_at x.all.clocks c).name (source_objects x c)

-- the prefix of virtual clocks' names: `bud_` behind the fewest letters x with which no clock of the top begins its name
abbrev pub prefix_with : ℕ → List ℕ
prefix_with n = replicate n 120 ++ codes "bud_"

abbrev pub begins_with : List ℕ → List ℕ → Bool
begins_with front name = bytes_eq (take (length front) name) front

abbrev pub is_free : List Clock → ℕ → Bool
is_free clocks n = not (list_any (λ c. begins_with (prefix_with n) c.name) clocks)

-- no name is longer than all of them together
abbrev pub prefix : List Clock → List ℕ
prefix clocks = prefix_with (unwrap_or (find (is_free clocks) (range_with_len 0 (suc (sum_by (λ c. length c.name) clocks)))) 0)

-- virtual clocks: one for each class with a node at a port bit, like the class's clock
abbrev pub virtual_name : Context → ℕ → List ℕ
virtual_name x k = prefix x.all.clocks ++ decimal k

abbrev pub virtual_objects : Context → List ℕ → List Object
virtual_objects x ks = map (λ k. Clocks (virtual_name x k)) ks

abbrev pub virtual_clock : Context → ℕ → SdcCommand
virtual_clock x k = clock_like (class_clock x.all x.layered k) (virtual_name x k) []

abbrev pub clock_commands : Context → List SdcCommand
clock_commands x = map (real_clock x) (real_clocks x) ++ map (virtual_clock x) (port_classes x)
