-- The netlist of a made design: two cells, a module for each block, and the top, which links the blocks one behind another.
use Rattle.std.specs.Prelude.{ℕ, List, [], ◌∷◌, ◌++◌, codes, if◌then◌else◌}
use Rattle.bud_gen.specs.declared.signals.Signal.{Signal}
use Rattle.bud_gen.specs.declared.gates.Gate.{Gate}
use Rattle.bud_gen.specs.declared.gates.Block.{Block}
use Rattle.bud_gen.specs.Signals.{back, numbered, signal_name}

abbrev pub cells : List ℕ
cells =
    codes "`celldefine\nmodule GATE (A, B, Z); input A, B; output Z; endmodule\n"
    ++ codes "module DFF (CK, D, Q); input CK, D; output Q; endmodule\n`endcelldefine\n"

abbrev pub gate_line : Gate → List ℕ
gate_line g =
    numbered (codes "GATE g") g.number ++ codes " (.A(" ++ signal_name g.a.signal ++ codes "), .B(" ++ signal_name g.b.signal
    ++ numbered (codes "), .Z(n") g.number ++ codes "));\n"

-- the register of a gate
abbrev pub register_line : ℕ → List ℕ
register_line g = numbered (codes "DFF r") g ++ numbered (codes " (.CK(ck), .D(n") g ++ numbered (codes "), .Q(q") g ++ codes "));\n"

-- a gate, with its register behind it where it has one
abbrev pub lines_of : Gate → List ℕ
lines_of g = if g.is_registered then gate_line g ++ register_line g.number else gate_line g

abbrev pub gate_lines : List Gate → List ℕ
gate_lines [] = []
gate_lines (g ∷ gs) = lines_of g ++ gate_lines gs

-- the block's output of this number
abbrev pub output_line : List Signal → ℕ → List ℕ
output_line signals j = numbered (codes "assign y") j ++ codes " = " ++ signal_name (back signals j) ++ codes ";\n"

abbrev pub output_lines : List Signal → List ℕ
output_lines signals = output_line signals 0 ++ output_line signals 1 ++ output_line signals 2 ++ output_line signals 3

abbrev pub header : ℕ → List ℕ
header k = numbered (codes "module m") k ++ codes " (ck, a0, a1, a2, a3, y0, y1, y2, y3);\ninput ck, a0, a1, a2, a3;\noutput y0, y1, y2, y3;\n"

abbrev pub module_text : Block → List ℕ
module_text b = header b.number ++ gate_lines b.gates ++ output_lines b.signals ++ codes "endmodule\n"

abbrev pub modules_text : List Block → List ℕ
modules_text [] = []
modules_text (b ∷ bs) = module_text b ++ modules_text bs

-- the same of all designs
abbrev pub top : List ℕ
top =
    codes "module top (clk, a0, a1, a2, a3, y0, y1, y2, y3);\ninput clk, a0, a1, a2, a3;\noutput y0, y1, y2, y3;\n"
    ++ codes "m0 b0 (.ck(clk), .a0(a0), .a1(a1), .a2(a2), .a3(a3), .y0(w0_0), .y1(w0_1), .y2(w0_2), .y3(w0_3));\n"
    ++ codes "m1 b1 (.ck(clk), .a0(w0_0), .a1(w0_1), .a2(w0_2), .a3(w0_3), .y0(w1_0), .y1(w1_1), .y2(w1_2), .y3(w1_3));\n"
    ++ codes "m2 b2 (.ck(clk), .a0(w1_0), .a1(w1_1), .a2(w1_2), .a3(w1_3), .y0(w2_0), .y1(w2_1), .y2(w2_2), .y3(w2_3));\n"
    ++ codes "m3 b3 (.ck(clk), .a0(w2_0), .a1(w2_1), .a2(w2_2), .a3(w2_3), .y0(y0), .y1(y1), .y2(y2), .y3(y3));\n"
    ++ codes "endmodule\n"

unfoldable pub verilog_text : List Block → List ℕ
verilog_text blocks = cells ++ modules_text blocks ++ top
