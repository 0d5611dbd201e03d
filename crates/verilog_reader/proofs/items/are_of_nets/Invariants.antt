use Rattle.std.proofs.Common.{◌≡◌, drop}
use Rattle.std.specs.List.{list_all}
use Rattle.verilog_reader.specs.Items.{is_of_nets}
use Rattle.verilog_reader.proofs.items.are_of_nets.Given as goal

-- what is left decides
abbrev pub invariant-loop-piece : goal.invariant-loop-piece
invariant-loop-piece l = list_all is_of_nets (drop l.piece-index l.pieces) ≡ list_all is_of_nets l.pieces
