-- The timing constraints of a made design of so many gates.
use Rattle.std.specs.Prelude.{ℕ, ◌+◌, ◌*◌, List, ◌++◌, codes}
use Rattle.bud_gen.specs.Signals.{numbered}

-- the period of its clock, in ps
abbrev pub period : ℕ → ℕ
period gates = 100 * gates + 1000

unfoldable pub sdc_text : ℕ → List ℕ
sdc_text gates =
    numbered (codes "set_units -time ps\ncurrent_design top\ncreate_clock -name C -period ") (period gates) ++ codes " [get_ports clk]\n"
    ++ codes "set_input_delay 0 -clock C [get_ports {a0 a1 a2 a3}]\nset_output_delay 0 -clock C [get_ports {y0 y1 y2 y3}]\n"
