use Rattle.std.proofs.Common.{◌≡◌, ◌+◌, drop}
use Rattle.std.specs.List.{prefix_len}
use Rattle.verilog_lex.specs.Fronts.{is_of_line}
use Rattle.verilog_reader.proofs.sources.line_length.Given as goal

-- all so far belong to the line
abbrev pub invariant-loop-i : goal.invariant-loop-i
invariant-loop-i l = prefix_len is_of_line l.bytes ≡ l.i + prefix_len is_of_line (drop l.i l.bytes)
